-- Masks and bases: what stays in a block of 2 ^ j numbers that begins at a multiple of their number.
use Rattle.std.proofs.Common.{◌≡◌, ℕ, ◌+◌, ◌-◌, ◌*◌, ◌/◌, ◌%◌, ◌^◌, ◌<◌, ◌≤◌, ◌⊎◌, sym, refl, ap, ◌∙◌, subst, inl, inr, ⊎_elim, mul_assoc, arith, pow-add}
use native.Mathlib.Nat.{div-eq_of_lt}
use lib.Arith.{digits_div}
use lib.Bits.{bit_and, bit_or, and_zero_r, or_zero_l, or_self}
use Rattle.std.proofs.lemmas.Nat.{pow_pos, and_le_r, and_mod, or_mod, or_shr, div-add-mod', mod_below}

multiple : (b s : ℕ) → b % s ≡ 0 → b ≡ b / s * s
multiple b s e = omega (arith, div-add-mod' b s)

in_block : (y s q : ℕ) → 0 < s → y / s ≡ q → (q * s ≤ y) × (y < q * s + s)
in_block y s q p e =
    let h : q * s + y % s ≡ y = subst (λ n. n * s + y % s ≡ y) e (div-add-mod' y s) in
    let l = mod_below y s p in
    (omega arith, omega arith)

block_of : (y s q : ℕ) → q * s ≤ y → y < q * s + s → y / s ≡ q
block_of y s q l h = ap (λ n. n / s) (let e : y ≡ q * s + (y - q * s) = omega arith in e) ∙ digits_div q (omega arith)

-- the base of a block, brought into a number below its size or in it, gives a number in it
pub or_base : (b j x : ℕ) → b % 2 ^ j ≡ 0 → ((b ≤ x) × (x < b + 2 ^ j)) ⊎ (x < 2 ^ j) → (b ≤ bit_or x b) × (bit_or x b < b + 2 ^ j)
or_base b j x e h =
    let q = b / 2 ^ j in
    let w = multiple b (2 ^ j) e in
    let top : (x / 2 ^ j ≡ q) ⊎ (x / 2 ^ j ≡ 0) =
    ⊎_elim (λ (i : (b ≤ x) × (x < b + 2 ^ j)). inl (block_of x (2 ^ j) q (omega arith) (omega arith))) (λ (i : x < 2 ^ j). inr (div-eq_of_lt i)) h in
    let both : bit_or (x / 2 ^ j) q ≡ q = ⊎_elim (λ (i : x / 2 ^ j ≡ q). rw i (or_self q)) (λ (i : x / 2 ^ j ≡ 0). rw i (or_zero_l q)) top in
    let t = in_block (bit_or x b) (2 ^ j) q (pow_pos j) (or_shr x b j ∙ both) in
    (omega arith, omega arith)

pub or_quad : (b x : ℕ) → b % 4 ≡ 0 → x % 4 ≡ 0 → bit_or x b % 4 ≡ 0
or_quad b x e f = or_mod x b 2 ∙ rw (e, f) refl

pub and_quad : (x c : ℕ) → c % 4 ≡ 0 → bit_and x c % 4 ≡ 0
and_quad x c e = and_mod x c 2 ∙ rw e (and_zero_r (x % 4))

pub power_quad : (j : ℕ) → 2 ≤ j → 2 ^ j % 4 ≡ 0
power_quad j h =
    let e : j ≡ (j - 2) + 2 = omega arith in
    let f : 2 ^ j ≡ 2 ^ (j - 2) * 4 = ap (λ k. 2 ^ k) e ∙ pow-add 2 (j - 2) 2 in
    omega arith

pub base_quad : (b j : ℕ) → 2 ≤ j → b % 2 ^ j ≡ 0 → b % 4 ≡ 0
base_quad b j h e =
    let q = b / 2 ^ j in
    let f : 2 ^ j ≡ 2 ^ j / 4 * 4 = omega (arith, power_quad j h) in
    let g : b ≡ q * (2 ^ j / 4) * 4 = multiple b (2 ^ j) e ∙ ap (λ n. q * n) f ∙ sym (mul_assoc q (2 ^ j / 4) 4) in
    omega arith

-- the mask of a data segment: any number comes out in it
pub masked_data : (b j x : ℕ) → b % 2 ^ j ≡ 0 → (b ≤ bit_or (bit_and x (2 ^ j - 1)) b) × (bit_or (bit_and x (2 ^ j - 1)) b < b + 2 ^ j)
masked_data b j x e =
    let l = and_le_r x (2 ^ j - 1) in
    let p = pow_pos j in
    or_base b j (bit_and x (2 ^ j - 1)) e (inr (omega arith))

-- the mask of a code window: any number comes out at a word of it
pub masked_code : (b j x : ℕ) → 2 ≤ j → b % 2 ^ j ≡ 0 →
    (b ≤ bit_or (bit_and x (2 ^ j - 4)) b) × (bit_or (bit_and x (2 ^ j - 4)) b < b + 2 ^ j) × (bit_or (bit_and x (2 ^ j - 4)) b % 4 ≡ 0)
masked_code b j x h e =
    let l = and_le_r x (2 ^ j - 4) in
    let p = pow_pos j in
    let q = power_quad j h in
    let in-it = or_base b j (bit_and x (2 ^ j - 4)) e (inr (omega arith)) in
    (in-it.0, in-it.1, or_quad b (bit_and x (2 ^ j - 4)) (base_quad b j h e) (and_quad x (2 ^ j - 4) (omega arith)))
