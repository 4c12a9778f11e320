-- A byte that a store changes lies in the current domain's segment.
use Rattle.std.proofs.Common.{◌≡◌, ℕ, ◌+◌, ◌-◌, ◌%◌, ◌<◌, ◌≤◌, true, ◌⊎◌, List, get_or, sym, refl, subst, inl, inr, ⊎_elim, arith}
use Rattle.std.proofs.lemmas.Bool.{cases_lt, cases_eq}
use Rattle.std.proofs.lemmas.Bool.Decides.{nat_tests}
use Rattle.segment.specs.Guards.{Row, inside, Inside, Near, apart}
use Rattle.segment.proofs.Bounds.{is_inside, whole}
use Rattle.machine.specs.declared.widths.Datum.{Datum}
use Rattle.machine.specs.declared.widths.Datum.TheVariants.{U8, U16, U32}
use Rattle.machine.specs.Widths.{bytes_of, width_of}
use Rattle.yard_steps.specs.Model.{Yard, at, mapped}
use Rattle.yard_steps.specs.Steps.{put_datum}
use Rattle.yard_steps.specs.Whole.{Whole}
use Rattle.yard_steps.proofs.Below.{one_below}
use Rattle.yard_steps.proofs.Puts.{put_elsewhere}

-- the width of an access is 1, 2 or 4
widths : (x : Datum) → (bytes_of (width_of x) ≡ 1) ⊎ ((bytes_of (width_of x) ≡ 2) ⊎ (bytes_of (width_of x) ≡ 4))
widths (U8 b) = inl refl
widths (U16 h) = inr (inl refl)
widths (U32 w) = inr (inr refl)

-- k is one of the bytes of an access, or none
among : (a w k : ℕ) → ((j : ℕ) × (j < w) × (k ≡ a + j)) ⊎ ((j : ℕ) → j < w → k ≡ a + j → ⊥)
among a w k =
    ⊎_elim (λ (h : k < a). inr (λ j lt e. omega (arith, e)))
    (λ (h : a ≤ k). ⊎_elim (λ (t : k < a + w). inl (k - a, omega arith, omega arith)) (λ (t : a + w ≤ k). inr (λ j lt e. omega (arith, e))) (cases_lt k (a + w)))
    (cases_lt k a)

module _ (y : Yard) (W : Whole y) (c : ℕ) (lt : c < y.count) where
  -- what is near the current domain's segment, and mapped, is its own
  own : (a : ℕ) → (a < 1048576 → Near (at y c).segment a) → mapped y a ≡ true → Inside (at y c).segment a
  own a near m =
      let t = one_below y.count (λ k. inside (at y k).segment a) m in
      let j = t.0 in
      let there = is_inside (at y j).segment a t.2 in
      let top = (W.admitted j t.1).sound.fits in
      let below : a < 1048576 = (let u = there.1 in omega arith) in
      ⊎_elim (λ (e : c ≡ j). subst (λ n. Inside (at y n).segment a) (sym e) there)
      (λ (n : c ≡ j → ⊥). absurd (between (at y c).segment (at y j).segment (W.spread c j lt t.1 n) a (near below) there))
      (cases_eq c j)
    where
      between : (s t : Row) → apart s t ≡ true → (a : ℕ) → Near s a → Inside t a → ⊥
      between s t e a n i = let p = n.0 in let q = n.1 in let u = i.0 in let v = i.1 in grind (arith, nat_tests)

  pub wrote : (a : ℕ) (x : Datum) (bs : List ℕ) → (a < 1048576 → Near (at y c).segment a) → a % bytes_of (width_of x) ≡ 0 → mapped y a ≡ true →
      (k : ℕ) → (get_or (put_datum bs a x) k 0 ≡ get_or bs k 0 → ⊥) → Inside (at y c).segment k
  wrote a x bs near even m k n =
      let s = (at y c).segment in
      let ok = (W.admitted c lt).sound in
      ⊎_elim
      (λ h. subst (Inside s) (sym h.2) (whole s a ok.large ok.aligned (own a near m) (bytes_of (width_of x)) h.0 (widths x) even h.1))
      (λ h. absurd (n (put_elsewhere bs a x k h)))
      (among a (bytes_of (width_of x)) k)
