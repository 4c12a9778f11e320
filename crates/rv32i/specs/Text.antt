-- The text of an instruction: the GNU assembler's form, without aliases and with numbered registers. Assumes nothing.
--   hexadecimal n   n in small hexadecimal digits, with no zeros in front; at most eight digits
--   x_name op        the mnemonic of an operation of the group x
--   ReadsName n t r  r is the operation whose name by n is t, or an error where none has it
--   text_of i        the text of i, such as: addi x1,x0,-1
use Rattle.std.specs.Prelude.{◌≡◌, ◌≢◌, ℕ, zero, suc, ◌/◌, ◌%◌, ◌^◌, false, cond, List, [], ◌∷◌, ◌++◌, ℤ, Result, MatchResult, codes, decimal, nat_lt}
use Rattle.std.specs.Fmt.{signed_decimal, digit_glyph}
use Rattle.rv32i.specs.declared.operations.BranchOp.{BranchOp}
use Rattle.rv32i.specs.declared.operations.BranchOp.TheVariants.{Beq, Bne, Blt, Bge, Bltu, Bgeu}
use Rattle.rv32i.specs.declared.operations.LoadOp.{LoadOp}
use Rattle.rv32i.specs.declared.operations.LoadOp.TheVariants.{Lb, Lh, Lw, Lbu, Lhu}
use Rattle.rv32i.specs.declared.operations.StoreOp.{StoreOp}
use Rattle.rv32i.specs.declared.operations.StoreOp.TheVariants.{Sb, Sh, Sw}
use Rattle.rv32i.specs.declared.operations.ImmOp.{ImmOp}
use Rattle.rv32i.specs.declared.operations.ImmOp.TheVariants.{Addi, Slti, Sltiu, Xori, Ori, Andi}
use Rattle.rv32i.specs.declared.operations.ShiftOp.{ShiftOp}
use Rattle.rv32i.specs.declared.operations.ShiftOp.TheVariants.{Slli, Srli, Srai}
use Rattle.rv32i.specs.declared.operations.RegOp.{RegOp}
use Rattle.rv32i.specs.declared.operations.RegOp.TheVariants.{Add, Sub, Sll, Slt, Sltu, Xor, Srl, Sra, Or, And}
use Rattle.rv32i.specs.declared.instructions.Instruction.{Instruction}
use Rattle.rv32i.specs.declared.instructions.Instruction.TheVariants.{Lui, Auipc, Jal, Jalr, Branch, Load, Store, OpImm, ShiftImm, Op, Fence, Ecall, Ebreak}
use Rattle.rv32i.specs.Encoded.{twos}

-- at most k digits
abbrev pub hex_digits : (k n : ℕ) → List ℕ
hex_digits zero n = []
hex_digits (suc k) n = cond (nat_lt n 16) (digit_glyph false n ∷ []) (hex_digits k (n / 16) ++ (digit_glyph false (n % 16) ∷ []))

unfoldable pub hexadecimal : ℕ → List ℕ
hexadecimal n = hex_digits 8 n

abbrev pub branch_name : BranchOp → List ℕ
branch_name Beq = codes "beq"
branch_name Bne = codes "bne"
branch_name Blt = codes "blt"
branch_name Bge = codes "bge"
branch_name Bltu = codes "bltu"
branch_name Bgeu = codes "bgeu"

abbrev pub load_name : LoadOp → List ℕ
load_name Lb = codes "lb"
load_name Lh = codes "lh"
load_name Lw = codes "lw"
load_name Lbu = codes "lbu"
load_name Lhu = codes "lhu"

abbrev pub store_name : StoreOp → List ℕ
store_name Sb = codes "sb"
store_name Sh = codes "sh"
store_name Sw = codes "sw"

abbrev pub imm_name : ImmOp → List ℕ
imm_name Addi = codes "addi"
imm_name Slti = codes "slti"
imm_name Sltiu = codes "sltiu"
imm_name Xori = codes "xori"
imm_name Ori = codes "ori"
imm_name Andi = codes "andi"

abbrev pub shift_name : ShiftOp → List ℕ
shift_name Slli = codes "slli"
shift_name Srli = codes "srli"
shift_name Srai = codes "srai"

abbrev pub reg_name : RegOp → List ℕ
reg_name Add = codes "add"
reg_name Sub = codes "sub"
reg_name Sll = codes "sll"
reg_name Slt = codes "slt"
reg_name Sltu = codes "sltu"
reg_name Xor = codes "xor"
reg_name Srl = codes "srl"
reg_name Sra = codes "sra"
reg_name Or = codes "or"
reg_name And = codes "and"

-- r is an operation of this name, or an error where no operation has it
abbrev pub ReadsName : {A E : Type 0} → (A → List ℕ) → List ℕ → Result A E → Type 0
ReadsName {A = A} name text r = MatchResult r (λ op. name op ≡ text) (λ _. (op : A) → name op ≢ text)

-- the upper twenty bits of an immediate
abbrev pub upper : ℤ → ℕ
upper z = twos 32 z / 2 ^ 12

abbrev pub text_of : Instruction → List ℕ
text_of (Lui rd imm) = codes "lui x" ++ (decimal rd ++ (codes ",0x" ++ hexadecimal (upper imm)))
text_of (Auipc rd imm) = codes "auipc x" ++ (decimal rd ++ (codes ",0x" ++ hexadecimal (upper imm)))
text_of (Jal rd offset) = codes "jal x" ++ (decimal rd ++ (codes "," ++ signed_decimal offset))
text_of (Jalr rd rs1 offset) = codes "jalr x" ++ (decimal rd ++ (codes "," ++ (signed_decimal offset ++ (codes "(x" ++ (decimal rs1 ++ codes ")")))))
text_of (Branch k rs1 rs2 offset) = branch_name k ++ (codes " x" ++ (decimal rs1 ++ (codes ",x" ++ (decimal rs2 ++ (codes "," ++ signed_decimal offset)))))
text_of (Load k rd rs1 offset) = load_name k ++ (codes " x" ++ (decimal rd ++ (codes "," ++ (signed_decimal offset ++ (codes "(x" ++ (decimal rs1 ++ codes ")"))))))
text_of (Store k rs1 rs2 offset) = store_name k ++ (codes " x" ++ (decimal rs2 ++ (codes "," ++ (signed_decimal offset ++ (codes "(x" ++ (decimal rs1 ++ codes ")"))))))
text_of (OpImm k rd rs1 imm) = imm_name k ++ (codes " x" ++ (decimal rd ++ (codes ",x" ++ (decimal rs1 ++ (codes "," ++ signed_decimal imm)))))
text_of (ShiftImm k rd rs1 shamt) = shift_name k ++ (codes " x" ++ (decimal rd ++ (codes ",x" ++ (decimal rs1 ++ (codes ",0x" ++ hexadecimal shamt)))))
text_of (Op k rd rs1 rs2) = reg_name k ++ (codes " x" ++ (decimal rd ++ (codes ",x" ++ (decimal rs1 ++ (codes ",x" ++ decimal rs2)))))
text_of Fence = codes "fence"
text_of Ecall = codes "ecall"
text_of Ebreak = codes "ebreak"
