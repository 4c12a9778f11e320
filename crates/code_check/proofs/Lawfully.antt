-- The verdict is lawful.
use Rattle.std.proofs.Common.{◌≡◌, ℕ, ◌<◌, List, length, Some, None, Ok, Err, Option, sym, refl, ap, ◌∙◌, subst, arith}
use Rattle.rv32i.specs.Table.{first}
use Rattle.rv32i.specs.Decoded.{Decoding}
use Rattle.refusal.specs.declared.rules.Rule.{Rule}
use Rattle.refusal.specs.declared.rules.Rule.TheVariants.{Decodes, StoreBase, JumpBase, Dedicated, Paired, Target, Ending}
use Rattle.refusal.specs.Told.{rule_number}
use Rattle.code_check.specs.Rules.{breaks, rules, word_at}
use Rattle.code_check.specs.Windows.{windowed}
use Rattle.code_check.specs.Verdicts.{Verdict, broken_at, reported, passed_at, and_then, verdict, checked}
use Rattle.code_check.specs.Laws.{Clean, Accepted, First, Lawful, Judged}
use Rattle.code_check.proofs.Scan.{err_ok, ok_below, below_ok, stops_at, stopped_at, none_breaks, breaks_none, some_breaks, breaks_some}

-- a rule is known by its number
rule_of : ℕ → Option Rule
rule_of n = first (λ r. lib.Dec.eqb n (rule_number r)) rules

rule_of-rule_number : (r : Rule) → rule_of (rule_number r) ≡ Some r
unfolding rule_of
rule_of-rule_number Decodes = refl
rule_of-rule_number StoreBase = refl
rule_of-rule_number JumpBase = refl
rule_of-rule_number Dedicated = refl
rule_of-rule_number Paired = refl
rule_of-rule_number Target = refl
rule_of-rule_number Ending = refl

same_rule : (r s : Rule) → rule_number r ≡ rule_number s → r ≡ s
same_rule r s e = let h : Some r ≡ Some s = sym (rule_of-rule_number r) ∙ ap rule_of e ∙ rule_of-rule_number s in cc

reported_ok : (p : ℕ) (d : Decoding) (o : Option Rule) → reported p d o ≡ Ok tt → o ≡ None
reported_ok p d None e = refl
reported_ok p d (Some r) e = absurd (err_ok _ tt e)

reported_err : (p q : ℕ) (d f : Decoding) (o : Option Rule) (r : Rule) → reported p d o ≡ Err (broken_at q f r) → (p ≡ q) × (o ≡ Some r)
reported_err p q d f None r e = absurd (err_ok _ tt (sym e))
reported_err p q d f (Some s) r e = (cc, ap (λ x. Some x) (same_rule s r (cc)))

module _ (ws : List ℕ) where
  abbrev lowest : ℕ → Option Rule
  lowest p = first (λ r. breaks r ws p) rules

  clean_at : (p : ℕ) → passed_at ws p ≡ Ok tt → Clean ws p
  clean_at p e = none_breaks (λ r. breaks r ws p) (reported_ok p (word_at ws p) (lowest p) e)

  at_clean : (p : ℕ) → Clean ws p → passed_at ws p ≡ Ok tt
  at_clean p h = ap (reported p (word_at ws p)) (breaks_none (λ r. breaks r ws p) h)

  pub accepted_verdict : Accepted ws → verdict ws ≡ Ok tt
  accepted_verdict h = below_ok (passed_at ws) (length ws) (λ p lt. at_clean p (h p lt))

  pub verdict_accepted : verdict ws ≡ Ok tt → Accepted ws
  verdict_accepted e p lt = clean_at p (ok_below (passed_at ws) (length ws) e p lt)

  first_from : (p : ℕ) (r : Rule) → verdict ws ≡ Err (broken_at p (word_at ws p) r) → First ws p r
  first_from p r e =
      let t = stopped_at (passed_at ws) (length ws) _ e in
      let h = reported_err t.0 p (word_at ws t.0) (word_at ws p) (lowest t.0) r t.2 in
      let here : lowest p ≡ Some r = subst (λ q. lowest q ≡ Some r) h.0 h.1 in
      let low = some_breaks (λ s. breaks s ws p) r here in
      record {
        within = subst (λ q. q < length ws) h.0 t.1;
        broken = low.0;
        lowest = low.1;
        earlier = λ q lt. clean_at q (t.3 q (omega (arith, h.0)));
      }

  from_first : (p : ℕ) (r : Rule) → First ws p r → verdict ws ≡ Err (broken_at p (word_at ws p) r)
  from_first p r h =
      let low = breaks_some (λ s. breaks s ws p) r h.broken h.lowest in
      stops_at (passed_at ws) (length ws) p _ h.within (below_ok (passed_at ws) p (λ q lt. at_clean q (h.earlier q lt))) (ap (reported p (word_at ws p)) low)

  lawful : Lawful ws (verdict ws)
  lawful = record { accepts = verdict_accepted; accepted = accepted_verdict; refuses = first_from; refused = from_first }

pub checked_at : (s : List ℕ) (b m : ℕ) (v : Verdict) → v ≡ checked s b m → (ws : List ℕ) → windowed s b m ≡ Ok ws → v ≡ verdict ws
checked_at s b m v e ws w = e ∙ ap (λ o. and_then o verdict) w

pub judged : (s : List ℕ) (b m : ℕ) (v : Verdict) → v ≡ checked s b m → Judged s b m v
judged s b m v e ws w = subst (Lawful ws) (sym (checked_at s b m v e ws w)) (lawful ws)
