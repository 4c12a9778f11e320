-- A chain has room for a domain that is idle.
use Rattle.std.proofs.Common.{◌≡◌, ℕ, zero, suc, ◌<◌, ◌≤◌, Bool, true, false, cond, eqb, ◌∷◌, length, get_or, sym, refl, ap, ◌∙◌, subst, ⊎_elim, arith}
use Rattle.std.proofs.lemmas.Bool.{cond-true, cond-false, eq-eqb, ne_eqb, cases_eq}
use Rattle.yard_steps.specs.declared.states.State.{State}
use Rattle.yard_steps.specs.declared.states.State.TheVariants.{Active}
use Rattle.yard_steps.specs.States.{is_idle}
use Rattle.yard_steps.specs.Model.{Yard, at, current}
use Rattle.yard_steps.specs.Whole.{Whole}
use Rattle.yard_steps.proofs.Chains.{active}
use Rattle.yard.specs.Views.{Ready}

-- k + 1 different numbers below n + 1: with the last in the place of n, k different numbers below n
module _ (n k : ℕ) (f : ℕ → ℕ) (below : (i : ℕ) → i < suc k → f i < suc n) (apart : (i j : ℕ) → i < suc k → j < suc k → f i ≡ f j → i ≡ j) where
  abbrev g : ℕ → ℕ
  g i = cond (eqb (f i) n) (f k) (f i)

  g_top : (i : ℕ) → f i ≡ n → g i ≡ f k
  g_top i e = cond-true (eqb (f i) n) (f k) (f i) (eq-eqb (f i) n e)

  g_low : (i : ℕ) → (f i ≡ n → ⊥) → g i ≡ f i
  g_low i e = cond-false (eqb (f i) n) (f k) (f i) (ne_eqb (f i) n e)

  last : (i : ℕ) → i < k → f i ≡ f k → ⊥
  last i l e = let h = apart i k (omega arith) (omega arith) e in omega arith

  under : (i : ℕ) → i < k → g i < n
  under i l =
      ⊎_elim
      (λ (e : f i ≡ n). subst (λ x. x < n) (sym (g_top i e)) (let b = below k (omega arith) in let ne : f k ≡ n → ⊥ = λ q. last i l (e ∙ sym q) in omega (arith, ne)))
      (λ (e : f i ≡ n → ⊥). subst (λ x. x < n) (sym (g_low i e)) (let b = below i (omega arith) in omega (arith, e)))
      (cases_eq (f i) n)

  other : (i j : ℕ) → i < k → j < k → g i ≡ g j → i ≡ j
  other i j a b q =
      ⊎_elim
      (λ (e : f i ≡ n). ⊎_elim
      (λ (d : f j ≡ n). apart i j (omega arith) (omega arith) (e ∙ sym d))
      (λ (d : f j ≡ n → ⊥). absurd (last j b (sym (g_low j d) ∙ (sym q ∙ g_top i e))))
      (cases_eq (f j) n))
      (λ (e : f i ≡ n → ⊥). ⊎_elim
      (λ (d : f j ≡ n). absurd (last i a (sym (g_low i e) ∙ (q ∙ g_top j d))))
      (λ (d : f j ≡ n → ⊥). apart i j (omega arith) (omega arith) (sym (g_low i e) ∙ (q ∙ g_low j d)))
      (cases_eq (f j) n))
      (cases_eq (f i) n)

-- k different numbers below n: k is at most n
pigeons : (n k : ℕ) (f : ℕ → ℕ) → ((i : ℕ) → i < k → f i < n) → ((i j : ℕ) → i < k → j < k → f i ≡ f j → i ≡ j) → k ≤ n
pigeons n zero f below apart = omega arith
pigeons zero (suc k) f below apart = absurd (let h = below 0 (omega arith) in omega arith)
pigeons (suc n) (suc k) f below apart = let h = pigeons n k (g n k f below apart) (under n k f below apart) (other n k f below apart) in omega arith

active_not_idle : (s : State) → s ≡ Active → is_idle s ≡ false
active_not_idle s e = ap is_idle e

true_false : (b : Bool) → b ≡ true → b ≡ false → ⊥
true_false b p q = let z : ◌≡◌ {A = ℕ} 0 1 = cc in omega arith

module _ (y : Yard) (W : Whole y) (calm : y.pending ≡ false) where
  -- whoever is idle is not on the chain
  off : (k : ℕ) → is_idle (at y k).state ≡ true → (i : ℕ) → i < length y.chain → get_or y.chain i 0 ≡ k → ⊥
  off k idle i l e = true_false (is_idle (at y k).state) idle (active_not_idle _ (ap (λ n. (at y n).state) (sym e) ∙ active y W calm i l))

  abbrev all : ℕ → ℕ → ℕ
  all k i = get_or (k ∷ y.chain) i 0

  low : (k : ℕ) → k < 8 → (i : ℕ) → i < suc (length y.chain) → all k i < 8
  low k l zero h = l
  low k l (suc i) h = let c = W.chained i (omega arith) in let f = W.few in omega arith

  apart : (k : ℕ) → is_idle (at y k).state ≡ true → (i j : ℕ) → i < suc (length y.chain) → j < suc (length y.chain) → all k i ≡ all k j → i ≡ j
  apart k idle zero zero a b e = refl
  apart k idle zero (suc j) a b e = absurd (off k idle j (omega arith) (sym e))
  apart k idle (suc i) zero a b e = absurd (off k idle i (omega arith) e)
  apart k idle (suc i) (suc j) a b e = ap suc (W.distinct i j (omega arith) (omega arith) e)

  room : (k : ℕ) → k < 8 → is_idle (at y k).state ≡ true → length y.chain < 8
  room k l idle = let p = pigeons 8 (suc (length y.chain)) (all k) (low k l) (apart k idle) in omega arith

  pub ready : 0 < length y.chain → Ready (current y) y
  ready some = record { awake = active_not_idle _ (active y W calm 0 some); room = room }
