-- The table of codes: opcode, funct3 and funct7, and the operation that has a code. Assumes nothing.
--   Major           the enum `Opcode`: the groups of instructions, by the manual's names, in small letters beside `Instruction`
--   major7 m        the opcode of a group of instructions
--   x3 op, x7 op    funct3 and funct7 of an operation of the group x
--   x_at f, x_at f g  the operation of the group x that has these codes, if any
use Rattle.std.specs.Prelude.{ℕ, Bool, cond, ◌&&◌, List, [], ◌∷◌, Some, None, Option, ◌==◌, nat_eq}
pub use Rattle.rv32i.specs.declared.opcodes.Opcode.{Opcode as Major}
pub use Rattle.rv32i.specs.declared.opcodes.Opcode.TheVariants.{Lui as lui, Auipc as auipc, Jal as jal, Jalr as jalr, Branch as branch, Load as load, Store as store, OpImm as op_imm, Op as op, MiscMem as misc_mem, System as system}
use Rattle.rv32i.specs.declared.operations.BranchOp.{BranchOp}
use Rattle.rv32i.specs.declared.operations.BranchOp.TheVariants.{Beq, Bne, Blt, Bge, Bltu, Bgeu}
use Rattle.rv32i.specs.declared.operations.LoadOp.{LoadOp}
use Rattle.rv32i.specs.declared.operations.LoadOp.TheVariants.{Lb, Lh, Lw, Lbu, Lhu}
use Rattle.rv32i.specs.declared.operations.StoreOp.{StoreOp}
use Rattle.rv32i.specs.declared.operations.StoreOp.TheVariants.{Sb, Sh, Sw}
use Rattle.rv32i.specs.declared.operations.ImmOp.{ImmOp}
use Rattle.rv32i.specs.declared.operations.ImmOp.TheVariants.{Addi, Slti, Sltiu, Xori, Ori, Andi}
use Rattle.rv32i.specs.declared.operations.ShiftOp.{ShiftOp}
use Rattle.rv32i.specs.declared.operations.ShiftOp.TheVariants.{Slli, Srli, Srai}
use Rattle.rv32i.specs.declared.operations.RegOp.{RegOp}
use Rattle.rv32i.specs.declared.operations.RegOp.TheVariants.{Add, Sub, Sll, Slt, Sltu, Xor, Srl, Sra, Or, And}

abbrev pub major7 : Major → ℕ
major7 lui = 0x37
major7 auipc = 0x17
major7 jal = 0x6F
major7 jalr = 0x67
major7 branch = 0x63
major7 load = 0x03
major7 store = 0x23
major7 op_imm = 0x13
major7 op = 0x33
major7 misc_mem = 0x0F
major7 system = 0x73

abbrev pub branch3 : BranchOp → ℕ
branch3 Beq = 0
branch3 Bne = 1
branch3 Blt = 4
branch3 Bge = 5
branch3 Bltu = 6
branch3 Bgeu = 7

abbrev pub load3 : LoadOp → ℕ
load3 Lb = 0
load3 Lh = 1
load3 Lw = 2
load3 Lbu = 4
load3 Lhu = 5

abbrev pub store3 : StoreOp → ℕ
store3 Sb = 0
store3 Sh = 1
store3 Sw = 2

abbrev pub imm3 : ImmOp → ℕ
imm3 Addi = 0
imm3 Slti = 2
imm3 Sltiu = 3
imm3 Xori = 4
imm3 Ori = 6
imm3 Andi = 7

abbrev pub shift3 : ShiftOp → ℕ
shift3 Slli = 1
shift3 Srli = 5
shift3 Srai = 5

abbrev pub shift7 : ShiftOp → ℕ
shift7 Slli = 0
shift7 Srli = 0
shift7 Srai = 0x20

abbrev pub reg3 : RegOp → ℕ
reg3 Add = 0
reg3 Sub = 0
reg3 Sll = 1
reg3 Slt = 2
reg3 Sltu = 3
reg3 Xor = 4
reg3 Srl = 5
reg3 Sra = 5
reg3 Or = 6
reg3 And = 7

abbrev pub reg7 : RegOp → ℕ
reg7 Add = 0
reg7 Sub = 0x20
reg7 Sll = 0
reg7 Slt = 0
reg7 Sltu = 0
reg7 Xor = 0
reg7 Srl = 0
reg7 Sra = 0x20
reg7 Or = 0
reg7 And = 0

-- the first of a list that passes a test
abbrev pub first : {A : Type 0} → (A → Bool) → List A → Option A
first p [] = None
first p (x ∷ xs) = cond (p x) (Some x) (first p xs)

abbrev pub major_at : ℕ → Option Major
major_at f =
    first (λ m. nat_eq f (major7 m))
    (lui ∷ auipc ∷ jal ∷ jalr ∷ branch ∷ load ∷ store ∷ op_imm ∷ op ∷ misc_mem ∷ system ∷ [])

abbrev pub branch_at : ℕ → Option BranchOp
branch_at f = first (λ k. nat_eq f (branch3 k)) (Beq ∷ Bne ∷ Blt ∷ Bge ∷ Bltu ∷ Bgeu ∷ [])

abbrev pub load_at : ℕ → Option LoadOp
load_at f = first (λ k. nat_eq f (load3 k)) (Lb ∷ Lh ∷ Lw ∷ Lbu ∷ Lhu ∷ [])

abbrev pub store_at : ℕ → Option StoreOp
store_at f = first (λ k. nat_eq f (store3 k)) (Sb ∷ Sh ∷ Sw ∷ [])

abbrev pub imm_at : ℕ → Option ImmOp
imm_at f = first (λ k. nat_eq f (imm3 k)) (Addi ∷ Slti ∷ Sltiu ∷ Xori ∷ Ori ∷ Andi ∷ [])

abbrev pub shift_at : (f g : ℕ) → Option ShiftOp
shift_at f g = first (λ k. (f == shift3 k) && g == shift7 k) (Slli ∷ Srli ∷ Srai ∷ [])

abbrev pub reg_at : (f g : ℕ) → Option RegOp
reg_at f g =
    first (λ k. (f == reg3 k) && g == reg7 k)
    (Add ∷ Sub ∷ Sll ∷ Slt ∷ Sltu ∷ Xor ∷ Srl ∷ Sra ∷ Or ∷ And ∷ [])
