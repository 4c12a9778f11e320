-- What the instructions on registers and immediates compute, over words: numbers below 2^32. Assumes nothing.
--   signed 32 a       the word a as a signed number, and twos 32 z the word of the signed number z
--   plus a imm        a and an immediate added, modulo 2^32
--   flag b            1 where b holds, else 0
--   floor z d         z divided by d, rounded down
--   sll, srl, sra     shifts of a word left, right, and right with its sign, by the low five bits of the count
--   imm_value op a imm, shift_value op a shamt, reg_value op a b   what the operation computes: one line an instruction
use Rattle.std.specs.Prelude.{ℕ, ◌+◌, ◌-◌, ◌*◌, ◌/◌, ◌%◌, ◌^◌, Bool, cond, ℤ, pos, negsuc, bit_and, bit_or, bit_xor, int_lt, nat_lt}
use Rattle.rv32i.specs.Fields.{signed}
use Rattle.rv32i.specs.Encoded.{twos}
use Rattle.rv32i.specs.declared.operations.ImmOp.{ImmOp}
use Rattle.rv32i.specs.declared.operations.ImmOp.TheVariants.{Addi, Slti, Sltiu, Xori, Ori, Andi}
use Rattle.rv32i.specs.declared.operations.ShiftOp.{ShiftOp}
use Rattle.rv32i.specs.declared.operations.ShiftOp.TheVariants.{Slli, Srli, Srai}
use Rattle.rv32i.specs.declared.operations.RegOp.{RegOp}
use Rattle.rv32i.specs.declared.operations.RegOp.TheVariants.{Add, Sub, Sll, Slt, Sltu, Xor, Srl, Sra, Or, And}

abbrev pub plus : ℕ → ℤ → ℕ
plus a imm = (a + twos 32 imm) % 2 ^ 32

abbrev pub flag : Bool → ℕ
flag b = cond b 1 0

-- -(k + 1) / d rounded down is -(k / d + 1)
abbrev pub floor : ℤ → ℕ → ℤ
floor (pos k) d = pos (k / d)
floor (negsuc k) d = negsuc (k / d)

abbrev pub sll : (a n : ℕ) → ℕ
sll a n = a * 2 ^ (n % 32) % 2 ^ 32

abbrev pub srl : (a n : ℕ) → ℕ
srl a n = a / 2 ^ (n % 32)

abbrev pub sra : (a n : ℕ) → ℕ
sra a n = twos 32 (floor (signed 32 a) (2 ^ (n % 32)))

abbrev pub imm_value : ImmOp → ℕ → ℤ → ℕ
imm_value Addi a imm = plus a imm
imm_value Slti a imm = flag (int_lt (signed 32 a) imm)
imm_value Sltiu a imm = flag (nat_lt a (twos 32 imm))
imm_value Xori a imm = bit_xor a (twos 32 imm)
imm_value Ori a imm = bit_or a (twos 32 imm)
imm_value Andi a imm = bit_and a (twos 32 imm)

abbrev pub shift_value : ShiftOp → (a shamt : ℕ) → ℕ
shift_value Slli a shamt = sll a shamt
shift_value Srli a shamt = srl a shamt
shift_value Srai a shamt = sra a shamt

abbrev pub reg_value : RegOp → (a b : ℕ) → ℕ
reg_value Add a b = (a + b) % 2 ^ 32
reg_value Sub a b = (a + (2 ^ 32 - b)) % 2 ^ 32
reg_value Sll a b = sll a b
reg_value Slt a b = flag (int_lt (signed 32 a) (signed 32 b))
reg_value Sltu a b = flag (nat_lt a b)
reg_value Xor a b = bit_xor a b
reg_value Srl a b = srl a b
reg_value Sra a b = sra a b
reg_value Or a b = bit_or a b
reg_value And a b = bit_and a b
