-- The word that holds an instruction. Assumes nothing.
--   twos n z      z in two's complement at n bits
--   short n z     whether z has such a form
--   word_x ..      the fields of format X put together, from bit 31 down
--   form_x ..      that word, where every register and the immediate has its form
--   encoded i     the word of i, if it has one
use Rattle.std.specs.Prelude.{ℕ, ◌+◌, ◌-◌, ◌*◌, ◌%◌, ◌^◌, Bool, cond, ◌&&◌, ℤ, pos, negsuc, Some, None, Option, ◌==◌, nat_lt}
use Rattle.rv32i.specs.declared.instructions.Instruction.{Instruction}
use Rattle.rv32i.specs.declared.instructions.Instruction.TheVariants.{Lui, Auipc, Jal, Jalr, Branch, Load, Store, OpImm, ShiftImm, Op, Fence, Ecall, Ebreak}
use Rattle.rv32i.specs.Fields.{bits}
use Rattle.rv32i.specs.Table.{branch3, load3, store3, imm3, shift3, shift7, reg3, reg7}

abbrev pub twos : ℕ → ℤ → ℕ
twos n (pos k) = k
twos n (negsuc k) = 2 ^ n - 1 - k

abbrev pub short : ℕ → ℤ → Bool
short n (pos k) = nat_lt k (2 ^ (n - 1))
short n (negsuc k) = nat_lt k (2 ^ (n - 1))

abbrev pub is_register : ℕ → Bool
is_register r = nat_lt r 32

abbrev pub given : Bool → ℕ → Option ℕ
given b w = cond b (Some w) None

abbrev pub word_r : (opcode rd funct3 rs1 rs2 funct7 : ℕ) → ℕ
word_r opcode rd funct3 rs1 rs2 funct7 = funct7 * 2 ^ 25 + rs2 * 2 ^ 20 + rs1 * 2 ^ 15 + funct3 * 2 ^ 12 + rd * 2 ^ 7 + opcode

abbrev pub word_i : (opcode rd funct3 rs1 imm : ℕ) → ℕ
word_i opcode rd funct3 rs1 imm = imm * 2 ^ 20 + rs1 * 2 ^ 15 + funct3 * 2 ^ 12 + rd * 2 ^ 7 + opcode

abbrev pub word_s : (opcode funct3 rs1 rs2 imm : ℕ) → ℕ
word_s opcode funct3 rs1 rs2 imm =
    bits imm 11 5 * 2 ^ 25 + rs2 * 2 ^ 20 + rs1 * 2 ^ 15 + funct3 * 2 ^ 12 + bits imm 4 0 * 2 ^ 7 + opcode

abbrev pub word_b : (opcode funct3 rs1 rs2 imm : ℕ) → ℕ
word_b opcode funct3 rs1 rs2 imm =
    bits imm 12 12 * 2 ^ 31 + bits imm 10 5 * 2 ^ 25 + rs2 * 2 ^ 20 + rs1 * 2 ^ 15 + funct3 * 2 ^ 12 + bits imm 4 1 * 2 ^ 8 + bits imm 11 11 * 2 ^ 7
    + opcode

abbrev pub word_u : (opcode rd imm : ℕ) → ℕ
word_u opcode rd imm = bits imm 31 12 * 2 ^ 12 + rd * 2 ^ 7 + opcode

abbrev pub word_j : (opcode rd imm : ℕ) → ℕ
word_j opcode rd imm =
    bits imm 20 20 * 2 ^ 31 + bits imm 10 1 * 2 ^ 21 + bits imm 11 11 * 2 ^ 20 + bits imm 19 12 * 2 ^ 12 + rd * 2 ^ 7 + opcode

abbrev pub form_r : (opcode rd funct3 rs1 rs2 funct7 : ℕ) → Option ℕ
form_r opcode rd funct3 rs1 rs2 funct7 = given (is_register rd && (is_register rs1 && is_register rs2)) (word_r opcode rd funct3 rs1 rs2 funct7)

abbrev pub form_i : (opcode rd funct3 rs1 : ℕ) → ℤ → Option ℕ
form_i opcode rd funct3 rs1 imm = given (is_register rd && (is_register rs1 && short 12 imm)) (word_i opcode rd funct3 rs1 (twos 12 imm))

abbrev pub form_s : (opcode funct3 rs1 rs2 : ℕ) → ℤ → Option ℕ
form_s opcode funct3 rs1 rs2 imm = given (is_register rs1 && (is_register rs2 && short 12 imm)) (word_s opcode funct3 rs1 rs2 (twos 12 imm))

abbrev pub form_b : (opcode funct3 rs1 rs2 : ℕ) → ℤ → Option ℕ
form_b opcode funct3 rs1 rs2 imm =
    given (is_register rs1 && (is_register rs2 && (short 13 imm && twos 13 imm % 2 == 0))) (word_b opcode funct3 rs1 rs2 (twos 13 imm))

abbrev pub form_u : (opcode rd : ℕ) → ℤ → Option ℕ
form_u opcode rd imm = given (is_register rd && (short 32 imm && twos 32 imm % 2 ^ 12 == 0)) (word_u opcode rd (twos 32 imm))

abbrev pub form_j : (opcode rd : ℕ) → ℤ → Option ℕ
form_j opcode rd imm = given (is_register rd && (short 21 imm && twos 21 imm % 2 == 0)) (word_j opcode rd (twos 21 imm))

abbrev pub encoded : Instruction → Option ℕ
encoded (Lui rd imm) = form_u 0x37 rd imm
encoded (Auipc rd imm) = form_u 0x17 rd imm
encoded (Jal rd offset) = form_j 0x6F rd offset
encoded (Jalr rd rs1 offset) = form_i 0x67 rd 0 rs1 offset
encoded (Branch k rs1 rs2 offset) = form_b 0x63 (branch3 k) rs1 rs2 offset
encoded (Load k rd rs1 offset) = form_i 0x03 rd (load3 k) rs1 offset
encoded (Store k rs1 rs2 offset) = form_s 0x23 (store3 k) rs1 rs2 offset
encoded (OpImm k rd rs1 imm) = form_i 0x13 rd (imm3 k) rs1 imm
encoded (ShiftImm k rd rs1 shamt) = form_r 0x13 rd (shift3 k) rs1 shamt (shift7 k)
encoded (Op k rd rs1 rs2) = form_r 0x33 rd (reg3 k) rs1 rs2 (reg7 k)
encoded Fence = Some 0x0FF0000F
encoded Ecall = Some 0x00000073
encoded Ebreak = Some 0x00100073
