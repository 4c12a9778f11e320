-- A word of each format has the fields that it was made of, and a word is made of its fields.
use Rattle.std.proofs.Common.{◌≡◌, ℕ, ◌+◌, ◌*◌, ◌/◌, ◌%◌, ◌^◌, ◌<◌, ◌∙◌, arith}
use Rattle.std.proofs.lemmas.Nat.{mod-pow-add}
use Rattle.rv32i.specs.Fields.{bits, opcode_of, rd_of, funct3_of, rs1_of, rs2_of, funct7_of}
use Rattle.rv32i.specs.Listing.{TypeR}
use Rattle.rv32i.specs.Encoded.{word_r, word_i}

pub fields_r : (op rd f3 rs1 rs2 f7 w : ℕ) → op < 128 → rd < 32 → f3 < 8 → rs1 < 32 → rs2 < 32 → f7 < 128 → word_r op rd f3 rs1 rs2 f7 ≡ w → TypeR w op f3 f7 rd rs1 rs2
fields_r op rd f3 rs1 rs2 f7 w a b c d e f is = (omega arith, omega arith, omega arith, omega arith, omega arith, omega arith)

pub fields_i : (op rd f3 rs1 imm w : ℕ) → op < 128 → rd < 32 → f3 < 8 → rs1 < 32 → imm < 2 ^ 12 → word_i op rd f3 rs1 imm ≡ w →
    (opcode_of w ≡ op) × (funct3_of w ≡ f3) × (rd_of w ≡ rd) × (rs1_of w ≡ rs1) × (bits w 31 20 ≡ imm)
fields_i op rd f3 rs1 imm w a b c d e is = (omega arith, omega arith, omega arith, omega arith, omega arith)

pub fields_b : (op b11 b4 f3 rs1 rs2 b10 b12 w : ℕ) → op < 128 → b11 < 2 → b4 < 16 → f3 < 8 → rs1 < 32 → rs2 < 32 → b10 < 64 → b12 < 2 →
    b12 * 2 ^ 31 + b10 * 2 ^ 25 + rs2 * 2 ^ 20 + rs1 * 2 ^ 15 + f3 * 2 ^ 12 + b4 * 2 ^ 8 + b11 * 2 ^ 7 + op ≡ w →
    (opcode_of w ≡ op) × (funct3_of w ≡ f3) × (rs1_of w ≡ rs1) × (rs2_of w ≡ rs2) × (bits w 31 31 ≡ b12) × (bits w 7 7 ≡ b11) × (bits w 30 25 ≡ b10) × (bits w 11 8 ≡ b4)
fields_b op b11 b4 f3 rs1 rs2 b10 b12 w a b c d e f g h is =
    (omega arith, omega arith, omega arith, omega arith, omega arith, omega arith, omega arith, omega arith)

pub fields_u : (op rd b w : ℕ) → op < 128 → rd < 32 → b < 2 ^ 20 → b * 2 ^ 12 + rd * 2 ^ 7 + op ≡ w → (opcode_of w ≡ op) × (rd_of w ≡ rd) × (bits w 31 12 ≡ b)
fields_u op rd b w a c d is = (omega arith, omega arith, omega arith)

pub fields_j : (op rd b19 b11 b10 b20 w : ℕ) → op < 128 → rd < 32 → b19 < 256 → b11 < 2 → b10 < 1024 → b20 < 2 →
    b20 * 2 ^ 31 + b10 * 2 ^ 21 + b11 * 2 ^ 20 + b19 * 2 ^ 12 + rd * 2 ^ 7 + op ≡ w →
    (opcode_of w ≡ op) × (rd_of w ≡ rd) × (bits w 31 31 ≡ b20) × (bits w 19 12 ≡ b19) × (bits w 20 20 ≡ b11) × (bits w 30 21 ≡ b10)
fields_j op rd b19 b11 b10 b20 w a b c d e f is = (omega arith, omega arith, omega arith, omega arith, omega arith, omega arith)

-- the pieces of an immediate: of formats S, B and J
pub pieces_s : (rd f7 x : ℕ) → rd < 32 → f7 < 128 → f7 * 2 ^ 5 + rd ≡ x → (bits x 4 0 ≡ rd) × (bits x 11 5 ≡ f7) × (x < 2 ^ 12)
pieces_s rd f7 x p q is = (omega arith, omega arith, omega arith)

pub pieces_b : (b11 b4 b10 b12 x : ℕ) → b11 < 2 → b4 < 16 → b10 < 64 → b12 < 2 → b12 * 2 ^ 12 + b11 * 2 ^ 11 + b10 * 2 ^ 5 + b4 * 2 ^ 1 ≡ x →
    (bits x 12 12 ≡ b12) × (bits x 11 11 ≡ b11) × (bits x 10 5 ≡ b10) × (bits x 4 1 ≡ b4) × (x < 2 ^ 13) × (x % 2 ≡ 0)
pieces_b b11 b4 b10 b12 x a b c d is = (omega arith, omega arith, omega arith, omega arith, omega arith, omega arith)

pub pieces_u : (b x : ℕ) → b < 2 ^ 20 → b * 2 ^ 12 ≡ x → (bits x 31 12 ≡ b) × (x < 2 ^ 32) × (x % 2 ^ 12 ≡ 0)
pieces_u b x a is = (omega arith, omega arith, omega arith)

pub pieces_j : (b19 b11 b10 b20 x : ℕ) → b19 < 256 → b11 < 2 → b10 < 1024 → b20 < 2 → b20 * 2 ^ 20 + b19 * 2 ^ 12 + b11 * 2 ^ 11 + b10 * 2 ^ 1 ≡ x →
    (bits x 20 20 ≡ b20) × (bits x 19 12 ≡ b19) × (bits x 11 11 ≡ b11) × (bits x 10 1 ≡ b10) × (x < 2 ^ 21) × (x % 2 ≡ 0)
pieces_j b19 b11 b10 b20 x a b c d is = (omega arith, omega arith, omega arith, omega arith, omega arith, omega arith)

-- four pieces one above the other, and nothing below them
chain : (p q r s x m1 m2 m3 m4 a b c d : ℕ) → x ≡ a * p + m1 → m1 ≡ b * q + m2 → m2 ≡ c * r + m3 → m3 ≡ d * s + m4 → m4 ≡ 0 → a * p + b * q + c * r + d * s ≡ x
chain p q r s x m1 m2 m3 m4 a b c d e0 e1 e2 e3 e4 = omega arith

pub joined_s : (x : ℕ) → x < 2 ^ 12 → bits x 11 5 * 2 ^ 5 + bits x 4 0 ≡ x
joined_s x h = omega arith

pub joined_b : (x : ℕ) → x < 2 ^ 13 → x % 2 ≡ 0 → bits x 12 12 * 2 ^ 12 + bits x 11 11 * 2 ^ 11 + bits x 10 5 * 2 ^ 5 + bits x 4 1 * 2 ^ 1 ≡ x
joined_b x h e =
    let top : x ≡ x % 2 ^ 13 = omega arith in
    let low : x % 2 ^ 1 ≡ 0 = e in
    chain _ _ _ _ x _ _ _ _ _ _ _ _ (top ∙ mod-pow-add x 1 12) (mod-pow-add x 1 11) (mod-pow-add x 6 5) (mod-pow-add x 4 1) low

pub joined_u : (x : ℕ) → x < 2 ^ 32 → x % 2 ^ 12 ≡ 0 → bits x 31 12 * 2 ^ 12 ≡ x
joined_u x h e = omega arith

pub joined_j : (x : ℕ) → x < 2 ^ 21 → x % 2 ≡ 0 → bits x 20 20 * 2 ^ 20 + bits x 19 12 * 2 ^ 12 + bits x 11 11 * 2 ^ 11 + bits x 10 1 * 2 ^ 1 ≡ x
joined_j x h e =
    let top : x ≡ x % 2 ^ 21 = omega arith in
    let low : x % 2 ^ 1 ≡ 0 = e in
    chain _ _ _ _ x _ _ _ _ _ _ _ _ (top ∙ mod-pow-add x 1 20) (mod-pow-add x 8 12) (mod-pow-add x 1 11) (mod-pow-add x 10 1) low

pub whole_r : (w : ℕ) → w < 2 ^ 32 → word_r (opcode_of w) (rd_of w) (funct3_of w) (rs1_of w) (rs2_of w) (funct7_of w) ≡ w
whole_r w h = omega arith

-- the finer pieces by those of format R
part_31_20 : (w : ℕ) → w < 2 ^ 32 → bits w 31 20 ≡ funct7_of w * 32 + rs2_of w
part_31_20 w h = omega arith

part_31 : (w : ℕ) → bits w 31 31 ≡ funct7_of w / 64
part_31 w = omega arith

part_30_25 : (w : ℕ) → bits w 30 25 ≡ funct7_of w % 64
part_30_25 w = omega arith

part_7 : (w : ℕ) → bits w 7 7 ≡ rd_of w % 2
part_7 w = omega arith

part_11_8 : (w : ℕ) → bits w 11 8 ≡ rd_of w / 2
part_11_8 w = omega arith

part_20 : (w : ℕ) → bits w 20 20 ≡ rs2_of w % 2
part_20 w = omega arith

part_30_21 : (w : ℕ) → bits w 30 21 ≡ funct7_of w % 64 * 16 + rs2_of w / 2
part_30_21 w = omega arith

part_19_12 : (w : ℕ) → bits w 19 12 ≡ rs1_of w * 8 + funct3_of w
part_19_12 w = omega arith

sum_i : (w op rd f3 rs1 rs2 f7 imm : ℕ) → word_r op rd f3 rs1 rs2 f7 ≡ w → imm ≡ f7 * 32 + rs2 → word_i op rd f3 rs1 imm ≡ w
sum_i w op rd f3 rs1 rs2 f7 imm e f = omega arith

pub whole_i : (w : ℕ) → w < 2 ^ 32 → word_i (opcode_of w) (rd_of w) (funct3_of w) (rs1_of w) (bits w 31 20) ≡ w
whole_i w h = sum_i w _ _ _ _ _ _ _ (whole_r w h) (part_31_20 w h)

sum_b : (w op rd f3 rs1 rs2 f7 b31 b25 b8 b7 : ℕ) → word_r op rd f3 rs1 rs2 f7 ≡ w → b31 ≡ f7 / 64 → b25 ≡ f7 % 64 → b8 ≡ rd / 2 → b7 ≡ rd % 2 →
    b31 * 2 ^ 31 + b25 * 2 ^ 25 + rs2 * 2 ^ 20 + rs1 * 2 ^ 15 + f3 * 2 ^ 12 + b8 * 2 ^ 8 + b7 * 2 ^ 7 + op ≡ w
sum_b w op rd f3 rs1 rs2 f7 b31 b25 b8 b7 e h i j k = omega arith

pub whole_b : (w : ℕ) → w < 2 ^ 32 →
    bits w 31 31 * 2 ^ 31 + bits w 30 25 * 2 ^ 25 + rs2_of w * 2 ^ 20 + rs1_of w * 2 ^ 15 + funct3_of w * 2 ^ 12 + bits w 11 8 * 2 ^ 8 + bits w 7 7 * 2 ^ 7 + opcode_of w ≡ w
whole_b w h = sum_b w _ _ _ _ _ _ _ _ _ _ (whole_r w h) (part_31 w) (part_30_25 w) (part_11_8 w) (part_7 w)

sum_j : (w op rd f3 rs1 rs2 f7 b31 b21 b20 b12 : ℕ) → word_r op rd f3 rs1 rs2 f7 ≡ w → b31 ≡ f7 / 64 → b21 ≡ f7 % 64 * 16 + rs2 / 2 → b20 ≡ rs2 % 2 → b12 ≡ rs1 * 8 + f3 →
    b31 * 2 ^ 31 + b21 * 2 ^ 21 + b20 * 2 ^ 20 + b12 * 2 ^ 12 + rd * 2 ^ 7 + op ≡ w
sum_j w op rd f3 rs1 rs2 f7 b31 b21 b20 b12 e h i j k = omega arith

pub whole_j : (w : ℕ) → w < 2 ^ 32 →
    bits w 31 31 * 2 ^ 31 + bits w 30 21 * 2 ^ 21 + bits w 20 20 * 2 ^ 20 + bits w 19 12 * 2 ^ 12 + rd_of w * 2 ^ 7 + opcode_of w ≡ w
whole_j w h = sum_j w _ _ _ _ _ _ _ _ _ _ (whole_r w h) (part_31 w) (part_30_21 w) (part_20 w) (part_19_12 w)

pub whole_u : (w : ℕ) → w < 2 ^ 32 → bits w 31 12 * 2 ^ 12 + rd_of w * 2 ^ 7 + opcode_of w ≡ w
whole_u w h = omega arith
