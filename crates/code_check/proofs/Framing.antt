-- The words of a window.
use Rattle.std.proofs.Common.{◌≡◌, ℕ, ◌+◌, ◌-◌, ◌*◌, ◌/◌, ◌%◌, ◌^◌, ◌≤◌, true, false, eqb, leb, List, length, drop, Ok, refl, ap, ◌∙◌, subst, ⊎_elim, arith, pow-add}
use lib.Bits.{bit_and, bit_or}
use Rattle.std.proofs.lemmas.List.{length-take-le, length-drop, get_or-take, get_or-drop}
use Rattle.std.proofs.lemmas.Bool.{cases_Bool, and_parts, leb-true, eqb-true}
use Rattle.code_check.specs.Windows.{counted, bits_fit, placed, words_from, windowed, Framed, code_mask_of, WordOf, Confines}
use Rattle.code_check.proofs.Scan.{err_ok}
use Rattle.segment.proofs.Blocks.{masked_code}

quarter : (m : ℕ) → 6 ≤ m → 4 * (2 ^ m / 4) ≡ 2 ^ m
quarter m h =
    let e : m ≡ (m - 2) + 2 = omega arith in
    let f : 2 ^ m ≡ 2 ^ (m - 2) * 4 = ap (λ k. 2 ^ k) e ∙ pow-add 2 (m - 2) 2 in
    omega arith

pub least_bits : (m : ℕ) → bits_fit m ≡ true → 6 ≤ m
least_bits m e = leb-true 6 m (and_parts (leb 6 m) (leb m 14) e).0

pub most_bits : (m : ℕ) → bits_fit m ≡ true → m ≤ 14
most_bits m e = leb-true m 14 (and_parts (leb 6 m) (leb m 14) e).1

module _ (s : List ℕ) (b m : ℕ) where
  frame : bits_fit m ≡ true → placed s b m ≡ true → Framed s b m (words_from s b m)
  frame e f =
      let place = and_parts (eqb (b % 2 ^ m) 0) (leb (b + 2 ^ m) (4 * counted s)) f in
      let low = least_bits m e in
      let end = leb-true (b + 2 ^ m) (4 * counted s) place.1 in
      let q = quarter m low in
      let fits : 2 ^ m / 4 ≤ length (drop (b / 4) s) = rw (length-drop (b / 4) s) (omega arith) in
      let long = length-take-le (2 ^ m / 4) (drop (b / 4) s) fits in
      record {
        low = low;
        high = most_bits m e;
        aligned = eqb-true (b % 2 ^ m) 0 place.0;
        inside = omega arith;
        counts = omega arith;
        whole = omega arith;
        words = λ p lt. get_or-take (2 ^ m / 4) (drop (b / 4) s) p 0 (omega arith) ∙ get_or-drop (b / 4) s p 0;
      }

  pub framed : (ws : List ℕ) → windowed s b m ≡ Ok ws → Framed s b m ws
  framed ws e =
      ⊎_elim
      (λ (x : bits_fit m ≡ true). ⊎_elim
      (λ (y : placed s b m ≡ true). let same : words_from s b m ≡ ws = let h : windowed s b m ≡ Ok (words_from s b m) = rw (x, y) refl in cc in subst (Framed s b m) same (frame x y))
      (λ (y : placed s b m ≡ false). let h = rw (x, y) at e in absurd (err_ok _ _ h))
      (cases_Bool (placed s b m)))
      (λ (x : bits_fit m ≡ false). let h = rw x at e in absurd (err_ok _ _ h))
      (cases_Bool (bits_fit m))

pub confines : (m k : ℕ) → code_mask_of m ≡ Ok k → Confines m k
confines m k e b x aligned =
    ⊎_elim
    (λ (f : bits_fit m ≡ true).
    let low = least_bits m f in
    let same : 2 ^ m - 4 ≡ k = let h : code_mask_of m ≡ Ok (2 ^ m - 4) = rw f refl in cc in
    subst (λ n. WordOf b m (bit_or (bit_and x n) b)) same (masked_code b m x (omega arith) aligned))
    (λ (f : bits_fit m ≡ false). let h = rw f at e in absurd (err_ok _ _ h))
    (cases_Bool (bits_fit m))
