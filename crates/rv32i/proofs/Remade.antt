-- Each format makes a word again of the fields that stand in it.
use Rattle.std.proofs.Common.{◌≡◌, ℕ, ◌+◌, ◌*◌, ◌^◌, ◌<◌, Bool, true, eqb, Some, sym, refl, ap, ◌∙◌, arith}
use Rattle.std.specs.Cmp.Derive.{both_true}
use Rattle.std.proofs.lemmas.Bool.Decides.{nat_tests}
use Rattle.rv32i.specs.Fields.{bits, opcode_of, rd_of, funct3_of, rs1_of, rs2_of, funct7_of, imm_i, imm_s, imm_b, imm_u, imm_j}
use Rattle.rv32i.specs.Encoded.{given, is_register, twos, word_i, form_r, form_i, form_s, form_b, form_u, form_j}
use Rattle.rv32i.proofs.Twos.{twos_signed}
use Rattle.rv32i.proofs.Words.{whole_r, whole_i, whole_b, whole_u, whole_j, pieces_s, pieces_b, pieces_u, pieces_j}

given_true : (b : Bool) (x w : ℕ) → b ≡ true → x ≡ w → given b x ≡ Some w
given_true b x w e f = rw e (ap Some f)

register : (r : ℕ) → r < 32 → is_register r ≡ true
register r h = grind (arith, nat_tests)

is_zero : (x : ℕ) → x ≡ 0 → eqb x 0 ≡ true
is_zero x h = grind (arith, nat_tests)

rd_is : (w : ℕ) → is_register (rd_of w) ≡ true
rd_is w = register (rd_of w) (omega arith)

rs1_is : (w : ℕ) → is_register (rs1_of w) ≡ true
rs1_is w = register (rs1_of w) (omega arith)

rs2_is : (w : ℕ) → is_register (rs2_of w) ≡ true
rs2_is w = register (rs2_of w) (omega arith)

pub into_r : (w : ℕ) → w < 2 ^ 32 → form_r (opcode_of w) (rd_of w) (funct3_of w) (rs1_of w) (rs2_of w) (funct7_of w) ≡ Some w
into_r w h = given_true _ _ w (both_true (rd_is w) (both_true (rs1_is w) (rs2_is w))) (whole_r w h)

pub into_i : (w : ℕ) → w < 2 ^ 32 → form_i (opcode_of w) (rd_of w) (funct3_of w) (rs1_of w) (imm_i w) ≡ Some w
into_i w h =
    let lt : bits w 31 20 < 2 ^ 12 = omega arith in
    let t = twos_signed 12 (bits w 31 20) refl lt in
    given_true _ _ w (both_true (rd_is w) (both_true (rs1_is w) t.1)) (ap (word_i (opcode_of w) (rd_of w) (funct3_of w) (rs1_of w)) t.0 ∙ whole_i w h)

pub into_s : (w : ℕ) → w < 2 ^ 32 → form_s (opcode_of w) (funct3_of w) (rs1_of w) (rs2_of w) (imm_s w) ≡ Some w
into_s w h =
    let p : rd_of w < 32 = omega arith in
    let q : funct7_of w < 128 = omega arith in
    let t = twos_signed 12 (funct7_of w * 2 ^ 5 + rd_of w) refl (pieces_s (rd_of w) (funct7_of w) _ p q refl).2 in
    let s = pieces_s (rd_of w) (funct7_of w) (twos 12 (imm_s w)) p q (sym t.0) in
    let e = whole_r w h in
    given_true _ _ w (both_true (rs1_is w) (both_true (rs2_is w) t.1)) (cc)

pub into_b : (w : ℕ) → w < 2 ^ 32 → form_b (opcode_of w) (funct3_of w) (rs1_of w) (rs2_of w) (imm_b w) ≡ Some w
into_b w h =
    let p1 : bits w 7 7 < 2 = omega arith in
    let p2 : bits w 11 8 < 16 = omega arith in
    let p3 : bits w 30 25 < 64 = omega arith in
    let p4 : bits w 31 31 < 2 = omega arith in
    let s = pieces_b (bits w 7 7) (bits w 11 8) (bits w 30 25) (bits w 31 31) in
    let t = twos_signed 13 (bits w 31 31 * 2 ^ 12 + bits w 7 7 * 2 ^ 11 + bits w 30 25 * 2 ^ 5 + bits w 11 8 * 2 ^ 1) refl (s _ p1 p2 p3 p4 refl).4 in
    let u = s (twos 13 (imm_b w)) p1 p2 p3 p4 (sym t.0) in
    let e = whole_b w h in
    given_true _ _ w (both_true (rs1_is w) (both_true (rs2_is w) (both_true t.1 (is_zero _ u.5)))) (cc)

pub into_u : (w : ℕ) → w < 2 ^ 32 → form_u (opcode_of w) (rd_of w) (imm_u w) ≡ Some w
into_u w h =
    let p : bits w 31 12 < 2 ^ 20 = omega arith in
    let t = twos_signed 32 (bits w 31 12 * 2 ^ 12) refl (pieces_u (bits w 31 12) _ p refl).1 in
    let u = pieces_u (bits w 31 12) (twos 32 (imm_u w)) p (sym t.0) in
    let e = whole_u w h in
    given_true _ _ w (both_true (rd_is w) (both_true t.1 (is_zero _ u.2))) (cc)

pub into_j : (w : ℕ) → w < 2 ^ 32 → form_j (opcode_of w) (rd_of w) (imm_j w) ≡ Some w
into_j w h =
    let p1 : bits w 19 12 < 256 = omega arith in
    let p2 : bits w 20 20 < 2 = omega arith in
    let p3 : bits w 30 21 < 1024 = omega arith in
    let p4 : bits w 31 31 < 2 = omega arith in
    let s = pieces_j (bits w 19 12) (bits w 20 20) (bits w 30 21) (bits w 31 31) in
    let t = twos_signed 21 (bits w 31 31 * 2 ^ 20 + bits w 19 12 * 2 ^ 12 + bits w 20 20 * 2 ^ 11 + bits w 30 21 * 2 ^ 1) refl (s _ p1 p2 p3 p4 refl).4 in
    let u = s (twos 21 (imm_j w)) p1 p2 p3 p4 (sym t.0) in
    let e = whole_j w h in
    given_true _ _ w (both_true (rd_is w) (both_true t.1 (is_zero _ u.5))) (cc)
