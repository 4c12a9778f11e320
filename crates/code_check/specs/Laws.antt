-- What a verdict says of the words, and what the rules say of the instructions. Assumes nothing.
--   Clean ws p         the word at p breaks no rule
--   Accepted ws        no word of the window ws breaks a rule
--   First ws p r       the word at p is the first to break a rule, and r is the lowest that it breaks
--   Lawful ws v        v is nothing exactly where ws is accepted, and the refusal of p for r exactly where these are the first
--   Judged s b m v     v is lawful of the window of 2 ^ m bytes from b, where there is one
--   MaskWord q i       i is AND q,rs,mask, with any rs
--   BaseWord q i       i is OR q,q,base
--   KeepsAt r n p e d  what the rule r is for, said of the word at p of n that decodes to d, where the next decodes to e
--   Keeps r ws p       the same of the word at p of the window ws
--   Meant ws           a word breaks a rule exactly where it does not keep it, and past the window there is no instruction
--   Safe s b m ws      ws is the window of 2 ^ m bytes from b, and every word of it keeps every rule
--   Gives s b m v      where v is nothing, the window is safe
use Rattle.std.specs.Prelude.{◌≡◌, ℕ, ◌+◌, ◌*◌, ◌<◌, ◌≤◌, true, false, ◌⊎◌, List, length, ℤ, pos, ◌+ℤ◌, Some, Ok, Err}
use Rattle.rv32i.specs.declared.operations.RegOp.TheVariants.{Or, And}
use Rattle.rv32i.specs.declared.operations.StoreOp.{StoreOp}
use Rattle.rv32i.specs.declared.instructions.Instruction.{Instruction}
use Rattle.rv32i.specs.declared.instructions.Instruction.TheVariants.{Jalr, Store, Op}
use Rattle.rv32i.specs.Decoded.{Decoding}
use Rattle.refusal.specs.declared.rules.Rule.{Rule}
use Rattle.refusal.specs.declared.rules.Rule.TheVariants.{Decodes, StoreBase, JumpBase, Dedicated, Paired, Target, Ending}
use Rattle.refusal.specs.Told.{rule_number}
use Rattle.code_check.specs.declared.pointers.Pointer.{Pointer}
use Rattle.code_check.specs.Registers.{register, mask, base}
use Rattle.code_check.specs.Aspects.{written, offset, leaves}
use Rattle.code_check.specs.Rules.{breaks, word_at}
use Rattle.code_check.specs.Windows.{windowed, Framed}
use Rattle.code_check.specs.Verdicts.{Verdict, broken_at}

abbrev pub Clean : List ℕ → ℕ → Type 0
Clean ws p = (r : Rule) → breaks r ws p ≡ false

abbrev pub Accepted : List ℕ → Type 0
Accepted ws = (p : ℕ) → p < length ws → Clean ws p

pub record First (ws : List ℕ) (p : ℕ) (r : Rule) : Type 0 where
  pub within : p < length ws
  pub broken : breaks r ws p ≡ true
  pub lowest : (s : Rule) → rule_number s < rule_number r → breaks s ws p ≡ false
  pub earlier : (q : ℕ) → q < p → Clean ws q

pub record Lawful (ws : List ℕ) (v : Verdict) : Type 0 where
  pub accepts : v ≡ Ok tt → Accepted ws
  pub accepted : Accepted ws → v ≡ Ok tt
  pub refuses : (p : ℕ) (r : Rule) → v ≡ Err (broken_at p (word_at ws p) r) → First ws p r
  pub refused : (p : ℕ) (r : Rule) → First ws p r → v ≡ Err (broken_at p (word_at ws p) r)

abbrev pub Judged : List ℕ → (b m : ℕ) → Verdict → Type 0
Judged s b m v = (ws : List ℕ) → windowed s b m ≡ Ok ws → Lawful ws v

abbrev pub MaskWord : Pointer → Instruction → Type 0
MaskWord q i = (rs : ℕ) × (i ≡ Op And (register q) rs (mask q))

abbrev pub BaseWord : Pointer → Instruction → Type 0
BaseWord q i = i ≡ Op Or (register q) (register q) (base q)

abbrev pub KeepsAt : Rule → (n p : ℕ) (next d : Decoding) → Type 0
KeepsAt Decodes n p next d = (i : Instruction) × (d ≡ Ok i)
KeepsAt StoreBase n p next d = (k : StoreOp) (rs1 rs2 : ℕ) (z : ℤ) → d ≡ Ok (Store k rs1 rs2 z) → rs1 ≡ 27
KeepsAt JumpBase n p next d = (rd rs1 : ℕ) (z : ℤ) → d ≡ Ok (Jalr rd rs1 z) → (rs1 ≡ 26) × (z ≡ pos 0)
KeepsAt Dedicated n p next d =
    (i : Instruction) (rd : ℕ) → d ≡ Ok i → written i ≡ Some rd → 22 ≤ rd → rd ≤ 27 → (q : Pointer) × (MaskWord q i ⊎ BaseWord q i)
KeepsAt Paired n p next d = (i : Instruction) (q : Pointer) → d ≡ Ok i → MaskWord q i → (j : Instruction) × (next ≡ Ok j) × BaseWord q j
KeepsAt Target n p next d =
    (i : Instruction) (z : ℤ) → d ≡ Ok i → offset i ≡ Some z → (t : ℕ) × (t < n) × (pos (4 * p) +ℤ z ≡ pos (4 * t))
KeepsAt Ending n p next d = (i : Instruction) → d ≡ Ok i → p + 1 ≡ n → leaves i ≡ true

abbrev pub Keeps : Rule → List ℕ → ℕ → Type 0
Keeps r ws p = KeepsAt r (length ws) p (word_at ws (p + 1)) (word_at ws p)

pub record Meant (ws : List ℕ) : Type 0 where
  pub kept : (r : Rule) (p : ℕ) → p < length ws → breaks r ws p ≡ false → Keeps r ws p
  pub broken : (r : Rule) (p : ℕ) → p < length ws → breaks r ws p ≡ true → Keeps r ws p → ⊥
  pub ends : (p : ℕ) (i : Instruction) → word_at ws p ≡ Ok i → p < length ws

pub record Safe (s : List ℕ) (b m : ℕ) (ws : List ℕ) : Type 0 where
  pub window : windowed s b m ≡ Ok ws
  pub framed : Framed s b m ws
  pub keeps : (p : ℕ) → p < length ws → (r : Rule) → Keeps r ws p

abbrev pub Gives : List ℕ → (b m : ℕ) → Verdict → Type 0
Gives s b m v = v ≡ Ok tt → (ws : List ℕ) × Safe s b m ws
