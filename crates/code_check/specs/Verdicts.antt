-- The verdict on a window. Assumes nothing.
--   Verdict              nothing, or the numbers that tell a refusal
--   cause_of d            the cause of a refused word
--   broken_at p d r       the refusal of the word at p, which decodes to d, for the rule r
--   reported p d o       the same for the rule that o holds, if it holds one
--   passed n p next d    nothing, or the refusal of the word at p for the lowest rule that it breaks
--   passed_at ws p        the same of the word at p of the window ws
--   and_then o f          the refusal that o is, or f of what it holds
--   in_turn f n           the first refusal among f 0 to f (n - 1)
--   verdict ws           the first refusal among the words of the window ws
--   checked s b m        the verdict on the window of 2 ^ m bytes from the address b of the store s
use Rattle.std.specs.Prelude.{ℕ, zero, suc, ◌+◌, List, length, Some, None, Ok, Err, Option, Result}
use Rattle.rv32i.specs.declared.causes.Cause.{Cause}
use Rattle.rv32i.specs.Table.{first}
use Rattle.rv32i.specs.Decoded.{Decoding}
use Rattle.refusal.specs.declared.rules.Rule.{Rule}
use Rattle.refusal.specs.declared.refusals.Refusal.TheVariants.{RuleBroken}
use Rattle.refusal.specs.Told.{told}
use Rattle.code_check.specs.Rules.{breaks_at, rules, word_at}
use Rattle.code_check.specs.Windows.{windowed}

abbrev pub Verdict : Type 0
Verdict = Result (Unit {0}) (List ℕ)

abbrev pub cause_of : Decoding → Option Cause
cause_of (Ok i) = None
cause_of (Err c) = Some c

abbrev pub broken_at : ℕ → Decoding → Rule → List ℕ
broken_at p d r = told (RuleBroken p r (cause_of d))

abbrev pub reported : ℕ → Decoding → Option Rule → Verdict
reported p d None = Ok tt
reported p d (Some r) = Err (broken_at p d r)

abbrev pub passed : (n p : ℕ) → Decoding → Decoding → Verdict
passed n p next d = reported p d (first (λ r. breaks_at r n p next d) rules)

abbrev pub passed_at : List ℕ → ℕ → Verdict
passed_at ws p = passed (length ws) p (word_at ws (p + 1)) (word_at ws p)

abbrev pub and_then : {A B : Type 0} → Result A (List ℕ) → (A → Result B (List ℕ)) → Result B (List ℕ)
and_then (Ok x) f = f x
and_then (Err e) f = Err e

abbrev pub in_turn : (ℕ → Verdict) → ℕ → Verdict
in_turn f zero = Ok tt
in_turn f (suc n) = and_then (in_turn f n) (λ _. f n)

abbrev pub verdict : List ℕ → Verdict
verdict ws = in_turn (passed_at ws) (length ws)

abbrev pub checked : List ℕ → (b m : ℕ) → Verdict
checked s b m = and_then (windowed s b m) verdict
