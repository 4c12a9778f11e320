-- A test of the numbers below another.
use Rattle.std.proofs.Common.{◌≡◌, ℕ, zero, suc, ◌<◌, ◌≤◌, Bool, true, false, refl, subst, ⊎_elim, arith}
use Rattle.std.proofs.lemmas.Bool.{cases_lt, or_cases, or_parts, both_ways}
use Rattle.yard_steps.specs.Model.{any_below}

-- one that passes
pub one_below : (n : ℕ) (f : ℕ → Bool) → any_below n f ≡ true → (j : ℕ) × (j < n) × (f j ≡ true)
one_below zero f e = absurd (both_ways false (refl) e)
one_below (suc n) f e =
    ⊎_elim (λ h. (n, omega arith, h)) (λ h. let t = one_below n f h in (t.0, omega (arith, t.1), t.2)) (or_cases (f n) (any_below n f) e)

-- none passes
pub none_below : (n : ℕ) (f : ℕ → Bool) → any_below n f ≡ false → (j : ℕ) → j < n → f j ≡ false
none_below zero f e j l = absurd (omega arith)
none_below (suc n) f e j l =
    let t = or_parts (f n) (any_below n f) e in
    ⊎_elim (none_below n f t.1 j) (λ (h : n ≤ j). let same : n ≡ j = omega arith in subst (λ k. f k ≡ false) same t.0) (cases_lt j n)
