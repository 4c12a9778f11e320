-- The hexadecimal digits of a number are those that std prints.
use Rattle.std.proofs.Common.{◌≡◌, ℕ, zero, suc, ◌/◌, ◌%◌, ◌^◌, ◌<◌, ◌≤◌, true, false, eqb, ltb, List, [], ◌∷◌, ◌++◌, sym, ◌∙◌, ⊎_elim, append_assoc, append-nil, pow-suc, refl, arith}
use Rattle.std.proofs.lemmas.Bool.{cases_lt}
use Rattle.std.proofs.lemmas.Bool.Decides.{nat_tests}
use Rattle.std.specs.Fmt.{digit_glyph, digits, digits_onto}
use Rattle.rv32i.specs.Text.{hex_digits, hexadecimal}

low : (n : ℕ) → n < 16 → ltb n 16 ≡ true
low n h = grind (arith, nat_tests)

high : (n : ℕ) → 16 ≤ n → ltb n 16 ≡ false
high n h = grind (arith, nat_tests)

last : (n : ℕ) → n < 16 → eqb (n / 16) 0 ≡ true
last n h = grind (arith, nat_tests)

more : (n : ℕ) → 16 ≤ n → eqb (n / 16) 0 ≡ false
more n h = grind (arith, nat_tests)

one_digit : (k j n : ℕ) (rest : List ℕ) → n < 16 → digits_onto (suc j) 16 false n rest ≡ hex_digits (suc k) n ++ rest
one_digit k j n rest h = let a = low n h in let b = last n h in let c : n % 16 ≡ n = omega arith in rw (a, b, c) refl

-- with room for them all, the digits of n stand before what follows
spelled : (k j n : ℕ) (rest : List ℕ) → k ≤ j → n < 16 ^ suc k → digits_onto (suc j) 16 false n rest ≡ hex_digits (suc k) n ++ rest
spelled zero j n rest room small = one_digit zero j n rest (omega (arith, pow-suc 16 0))
spelled (suc k) zero n rest room small = absurd (omega arith)
spelled (suc k) (suc j) n rest room small =
    ⊎_elim (one_digit (suc k) (suc j) n rest)
    (λ h.
    let a = high n h in
    let b = more n h in
    let digit = digit_glyph false (n % 16) in
    let next = spelled k j (n / 16) (digit ∷ rest) (omega arith) (omega (arith, pow-suc 16 (suc k))) in
    rw (a, b) (next ∙ sym (append_assoc (hex_digits (suc k) (n / 16)) (digit ∷ []) rest)))
    (cases_lt n 16)

pub hexadecimal_digits : (n : ℕ) → n < 2 ^ 32 → digits 16 false n ≡ hexadecimal n
unfolding hexadecimal digits
hexadecimal_digits n h = spelled 7 63 n [] (omega arith) (omega arith) ∙ append-nil _
