-- A word that a format gives has the opcode, the codes, the registers and the immediate that it was given.
use Rattle.std.proofs.Common.{◌≡◌, ℕ, ◌+◌, ◌*◌, ◌%◌, ◌^◌, ◌<◌, true, ℤ, Some, refl, ap, ◌∙◌, arith}
use Rattle.std.proofs.lemmas.Bool.Decides.{nat_tests}
use Rattle.std.proofs.lemmas.Option.{cond_some}
use Rattle.rv32i.specs.Fields.{bits, signed}
use Rattle.rv32i.specs.Listing.{TypeR, TypeI, TypeS, TypeB, TypeU, TypeJ}
use Rattle.rv32i.specs.Encoded.{twos, short, form_r, form_i, form_s, form_b, form_u, form_j}
use Rattle.rv32i.proofs.Twos.{signed_twos, twos_lt}
use Rattle.rv32i.proofs.Words.{fields_r, fields_i, fields_b, fields_u, fields_j, joined_s, joined_b, joined_u, joined_j}

pub from_r : (op rd f3 rs1 rs2 f7 w : ℕ) → op < 128 → f3 < 8 → f7 < 128 → form_r op rd f3 rs1 rs2 f7 ≡ Some w → TypeR w op f3 f7 rd rs1 rs2
from_r op rd f3 rs1 rs2 f7 w a c f e =
    let g = cond_some _ _ w e in
    let h1 : rd < 32 = grind (arith, nat_tests, g.0) in
    let h2 : rs1 < 32 = grind (arith, nat_tests, g.0) in
    let h3 : rs2 < 32 = grind (arith, nat_tests, g.0) in
    fields_r op rd f3 rs1 rs2 f7 w a h1 c h2 h3 f g.1

pub from_i : (op rd f3 rs1 w : ℕ) (z : ℤ) → op < 128 → f3 < 8 → form_i op rd f3 rs1 z ≡ Some w → TypeI w op f3 rd rs1 z
from_i op rd f3 rs1 w z a c e =
    let g = cond_some _ _ w e in
    let h1 : rd < 32 = grind (arith, nat_tests, g.0) in
    let h2 : rs1 < 32 = grind (arith, nat_tests, g.0) in
    let h3 : short 12 z ≡ true = grind (arith, nat_tests, g.0) in
    let t = fields_i op rd f3 rs1 (twos 12 z) w a h1 c h2 (twos_lt 12 z refl h3) g.1 in
    (t.0, t.1, t.2, t.3, ap (signed 12) t.4 ∙ signed_twos 12 z refl h3)

pub from_s : (op f3 rs1 rs2 w : ℕ) (z : ℤ) → op < 128 → f3 < 8 → form_s op f3 rs1 rs2 z ≡ Some w → TypeS w op f3 rs1 rs2 z
from_s op f3 rs1 rs2 w z a c e =
    let g = cond_some _ _ w e in
    let h1 : rs1 < 32 = grind (arith, nat_tests, g.0) in
    let h2 : rs2 < 32 = grind (arith, nat_tests, g.0) in
    let h3 : short 12 z ≡ true = grind (arith, nat_tests, g.0) in
    let low : bits (twos 12 z) 4 0 < 32 = omega arith in
    let high : bits (twos 12 z) 11 5 < 128 = omega arith in
    let t = fields_r op (bits (twos 12 z) 4 0) f3 rs1 rs2 (bits (twos 12 z) 11 5) w a low c h1 h2 high g.1 in
    let same : bits w 31 25 * 2 ^ 5 + bits w 11 7 ≡ bits (twos 12 z) 11 5 * 2 ^ 5 + bits (twos 12 z) 4 0 = (cc) in
    (t.0, t.1, t.4, t.5, ap (signed 12) (same ∙ joined_s (twos 12 z) (twos_lt 12 z refl h3)) ∙ signed_twos 12 z refl h3)

pub from_b : (op f3 rs1 rs2 w : ℕ) (z : ℤ) → op < 128 → f3 < 8 → form_b op f3 rs1 rs2 z ≡ Some w → TypeB w op f3 rs1 rs2 z
from_b op f3 rs1 rs2 w z a c e =
    let g = cond_some _ _ w e in
    let h1 : rs1 < 32 = grind (arith, nat_tests, g.0) in
    let h2 : rs2 < 32 = grind (arith, nat_tests, g.0) in
    let h3 : short 13 z ≡ true = grind (arith, nat_tests, g.0) in
    let h4 : twos 13 z % 2 ≡ 0 = grind (arith, nat_tests, g.0) in
    let u = twos 13 z in
    let p1 : bits u 11 11 < 2 = omega arith in
    let p2 : bits u 4 1 < 16 = omega arith in
    let p3 : bits u 10 5 < 64 = omega arith in
    let p4 : bits u 12 12 < 2 = omega arith in
    let t = fields_b op (bits u 11 11) (bits u 4 1) f3 rs1 rs2 (bits u 10 5) (bits u 12 12) w a p1 p2 c h1 h2 p3 p4 g.1 in
    let j = joined_b (twos 13 z) (twos_lt 13 z refl h3) h4 in
    let same : bits w 31 31 * 2 ^ 12 + bits w 7 7 * 2 ^ 11 + bits w 30 25 * 2 ^ 5 + bits w 11 8 * 2 ^ 1 ≡ twos 13 z = (cc) in
    (t.0, t.1, t.2, t.3, ap (signed 13) same ∙ signed_twos 13 z refl h3)

pub from_u : (op rd w : ℕ) (z : ℤ) → op < 128 → form_u op rd z ≡ Some w → TypeU w op rd z
from_u op rd w z a e =
    let g = cond_some _ _ w e in
    let h1 : rd < 32 = grind (arith, nat_tests, g.0) in
    let h3 : short 32 z ≡ true = grind (arith, nat_tests, g.0) in
    let h4 : twos 32 z % 2 ^ 12 ≡ 0 = grind (arith, nat_tests, g.0) in
    let high : bits (twos 32 z) 31 12 < 2 ^ 20 = omega arith in
    let t = fields_u op rd (bits (twos 32 z) 31 12) w a h1 high g.1 in
    (t.0, t.1, ap (λ n. signed 32 (n * 2 ^ 12)) t.2 ∙ ap (signed 32) (joined_u (twos 32 z) (twos_lt 32 z refl h3) h4) ∙ signed_twos 32 z refl h3)

pub from_j : (op rd w : ℕ) (z : ℤ) → op < 128 → form_j op rd z ≡ Some w → TypeJ w op rd z
from_j op rd w z a e =
    let g = cond_some _ _ w e in
    let h1 : rd < 32 = grind (arith, nat_tests, g.0) in
    let h3 : short 21 z ≡ true = grind (arith, nat_tests, g.0) in
    let h4 : twos 21 z % 2 ≡ 0 = grind (arith, nat_tests, g.0) in
    let u = twos 21 z in
    let p1 : bits u 19 12 < 256 = omega arith in
    let p2 : bits u 11 11 < 2 = omega arith in
    let p3 : bits u 10 1 < 1024 = omega arith in
    let p4 : bits u 20 20 < 2 = omega arith in
    let t = fields_j op rd (bits u 19 12) (bits u 11 11) (bits u 10 1) (bits u 20 20) w a h1 p1 p2 p3 p4 g.1 in
    let j = joined_j (twos 21 z) (twos_lt 21 z refl h3) h4 in
    let same : bits w 31 31 * 2 ^ 20 + bits w 19 12 * 2 ^ 12 + bits w 20 20 * 2 ^ 11 + bits w 30 21 * 2 ^ 1 ≡ twos 21 z = (cc) in
    (t.0, t.1, ap (signed 21) same ∙ signed_twos 21 z refl h3)
