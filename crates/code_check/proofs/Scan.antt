-- The first refusal in turn, and the lowest of the rules.
use Rattle.std.proofs.Common.{◌≡◌, ℕ, zero, suc, ◌+◌, ◌<◌, ◌≤◌, Bool, true, false, ◌⊎◌, List, Some, None, Ok, Err, Result, sym, refl, subst, inl, inr, ⊎_elim, add-one, arith}
use Rattle.std.proofs.lemmas.Bool.Decides.{nat_tests}
use Rattle.std.proofs.lemmas.Bool.{cases_lt}
use Rattle.rv32i.specs.Table.{first}
use Rattle.refusal.specs.declared.rules.Rule.{Rule}
use Rattle.refusal.specs.declared.rules.Rule.TheVariants.{Decodes, StoreBase, JumpBase, Dedicated, Paired, Target, Ending}
use Rattle.refusal.specs.Told.{rule_number}
use Rattle.code_check.specs.Rules.{rules}
use Rattle.code_check.specs.Verdicts.{Verdict, and_then, in_turn}

pub err_ok : {A E : Type 0} (e : E) (x : A) → ◌≡◌ {A = Result A E} (Err e) (Ok x) → ⊥
err_ok e x h = let z : ◌≡◌ {A = ℕ} 0 1 = cc in omega arith

then_ok : (o q : Verdict) → and_then o (λ _. q) ≡ Ok tt → (o ≡ Ok tt) × (q ≡ Ok tt)
then_ok (Ok x) q e = (refl, e)
then_ok (Err a) q e = absurd (err_ok a tt e)

then_err : (o q : Verdict) (a : List ℕ) → and_then o (λ _. q) ≡ Err a → (o ≡ Err a) ⊎ ((o ≡ Ok tt) × (q ≡ Err a))
then_err (Ok x) q a e = inr (refl, e)
then_err (Err b) q a e = inl e

module _ (f : ℕ → Verdict) where
  pub one_more : (i : ℕ) → in_turn f i ≡ Ok tt → f i ≡ Ok tt → in_turn f (i + 1) ≡ Ok tt
  one_more i e h = rw (add-one, e) h

  pub ok_below : (n : ℕ) → in_turn f n ≡ Ok tt → (p : ℕ) → p < n → f p ≡ Ok tt
  ok_below zero e p lt = absurd (omega arith)
  ok_below (suc n) e p lt =
      let h = then_ok (in_turn f n) (f n) e in
      ⊎_elim (ok_below n h.0 p) (λ (ge : n ≤ p). let same : n ≡ p = omega arith in subst (λ k. f k ≡ Ok tt) same h.1) (cases_lt p n)

  pub below_ok : (n : ℕ) → ((p : ℕ) → p < n → f p ≡ Ok tt) → in_turn f n ≡ Ok tt
  below_ok zero h = refl
  below_ok (suc n) h = rw (below_ok n (λ p lt. h p (omega arith))) (h n (omega arith))

  pub stops_at : (n i : ℕ) (a : List ℕ) → i < n → in_turn f i ≡ Ok tt → f i ≡ Err a → in_turn f n ≡ Err a
  stops_at zero i a lt e h = absurd (omega arith)
  stops_at (suc n) i a lt e h =
      ⊎_elim (λ (l : i < n). rw (stops_at n i a l e h) refl)
      (λ (ge : n ≤ i). let same : i ≡ n = omega arith in let here : in_turn f n ≡ Ok tt = subst (λ k. in_turn f k ≡ Ok tt) same e in rw here (subst (λ k. f k ≡ Err a) same h)) (cases_lt i n)

  pub stopped_at : (n : ℕ) (a : List ℕ) → in_turn f n ≡ Err a → (p : ℕ) × (p < n) × (f p ≡ Err a) × ((q : ℕ) → q < p → f q ≡ Ok tt)
  stopped_at zero a e = absurd (err_ok a tt (sym e))
  stopped_at (suc n) a e =
      ⊎_elim (λ (h : in_turn f n ≡ Err a). let t = stopped_at n a h in (t.0, omega arith, t.2, t.3))
      (λ (h : (in_turn f n ≡ Ok tt) × (f n ≡ Err a)). (n, omega arith, h.1, ok_below n h.0))
      (then_err (in_turn f n) (f n) a e)

module _ (p : Rule → Bool) where
  pub none_breaks : first p rules ≡ None → (r : Rule) → p r ≡ false
  none_breaks e r = grind (arith, nat_tests)

  pub breaks_none : ((r : Rule) → p r ≡ false) → first p rules ≡ None
  breaks_none h = rw (h Decodes, h StoreBase, h JumpBase, h Dedicated, h Paired, h Target, h Ending) refl

  pub some_breaks : (r : Rule) → first p rules ≡ Some r → (p r ≡ true) × ((s : Rule) → rule_number s < rule_number r → p s ≡ false)
  some_breaks r e = (grind (arith, nat_tests), λ s lt. grind (arith, nat_tests))

  pub breaks_some : (r : Rule) → p r ≡ true → ((s : Rule) → rule_number s < rule_number r → p s ≡ false) → first p rules ≡ Some r
  breaks_some r e h = grind (arith, nat_tests, h Decodes, h StoreBase, h JumpBase, h Dedicated, h Paired, h Target)
