-- The fields of a word, and the immediate of each format. Assumes nothing.
--   bits w hi lo   bits hi down to lo of w, as a number
--   signed n x     the n-bit number x in two's complement
use Rattle.std.specs.Prelude.{ℕ, ◌+◌, ◌-◌, ◌*◌, ◌/◌, ◌%◌, ◌^◌, cond, ℤ, pos, negsuc, nat_lt}

abbrev pub bits : (w hi lo : ℕ) → ℕ
bits w hi lo = w / 2 ^ lo % 2 ^ (hi + 1 - lo)

abbrev pub opcode_of : ℕ → ℕ
opcode_of w = bits w 6 0

abbrev pub rd_of : ℕ → ℕ
rd_of w = bits w 11 7

abbrev pub funct3_of : ℕ → ℕ
funct3_of w = bits w 14 12

abbrev pub rs1_of : ℕ → ℕ
rs1_of w = bits w 19 15

abbrev pub rs2_of : ℕ → ℕ
rs2_of w = bits w 24 20

abbrev pub funct7_of : ℕ → ℕ
funct7_of w = bits w 31 25

abbrev pub signed : (n x : ℕ) → ℤ
signed n x = cond (nat_lt x (2 ^ (n - 1))) (pos x) (negsuc (2 ^ n - 1 - x))

abbrev pub imm_i : ℕ → ℤ
imm_i w = signed 12 (bits w 31 20)

abbrev pub imm_s : ℕ → ℤ
imm_s w = signed 12 (bits w 31 25 * 2 ^ 5 + bits w 11 7)

abbrev pub imm_b : ℕ → ℤ
imm_b w = signed 13 (bits w 31 31 * 2 ^ 12 + bits w 7 7 * 2 ^ 11 + bits w 30 25 * 2 ^ 5 + bits w 11 8 * 2 ^ 1)

abbrev pub imm_u : ℕ → ℤ
imm_u w = signed 32 (bits w 31 12 * 2 ^ 12)

abbrev pub imm_j : ℕ → ℤ
imm_j w = signed 21 (bits w 31 31 * 2 ^ 20 + bits w 19 12 * 2 ^ 12 + bits w 20 20 * 2 ^ 11 + bits w 30 21 * 2 ^ 1)
