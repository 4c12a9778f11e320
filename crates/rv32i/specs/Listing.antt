-- The listing of RV32I, as the manual prints it: which words hold which instruction. Assumes nothing.
--   TypeX w ..   w has the opcode, the codes, the registers and the immediate given, in format X
--   Holds w i    w holds the instruction i: one line an instruction
use Rattle.std.specs.Prelude.{◌≡◌, ℕ, ℤ}
use Rattle.rv32i.specs.declared.operations.BranchOp.TheVariants.{Beq, Bne, Blt, Bge, Bltu, Bgeu}
use Rattle.rv32i.specs.declared.operations.LoadOp.TheVariants.{Lb, Lh, Lw, Lbu, Lhu}
use Rattle.rv32i.specs.declared.operations.StoreOp.TheVariants.{Sb, Sh, Sw}
use Rattle.rv32i.specs.declared.operations.ImmOp.TheVariants.{Addi, Slti, Sltiu, Xori, Ori, Andi}
use Rattle.rv32i.specs.declared.operations.ShiftOp.TheVariants.{Slli, Srli, Srai}
use Rattle.rv32i.specs.declared.operations.RegOp.TheVariants.{Add, Sub, Sll, Slt, Sltu, Xor, Srl, Sra, Or, And}
use Rattle.rv32i.specs.declared.instructions.Instruction.{Instruction}
use Rattle.rv32i.specs.declared.instructions.Instruction.TheVariants.{Lui, Auipc, Jal, Jalr, Branch, Load, Store, OpImm, ShiftImm, Op, Fence, Ecall, Ebreak}
use Rattle.rv32i.specs.Fields.{opcode_of, rd_of, funct3_of, rs1_of, rs2_of, funct7_of, imm_i, imm_s, imm_b, imm_u, imm_j}

abbrev pub TypeR : (w opcode funct3 funct7 rd rs1 rs2 : ℕ) → Type 0
TypeR w opcode funct3 funct7 rd rs1 rs2 =
    (opcode_of w ≡ opcode) × (funct3_of w ≡ funct3) × (funct7_of w ≡ funct7) × (rd_of w ≡ rd) × (rs1_of w ≡ rs1) × (rs2_of w ≡ rs2)

abbrev pub TypeI : (w opcode funct3 rd rs1 : ℕ) → ℤ → Type 0
TypeI w opcode funct3 rd rs1 imm = (opcode_of w ≡ opcode) × (funct3_of w ≡ funct3) × (rd_of w ≡ rd) × (rs1_of w ≡ rs1) × (imm_i w ≡ imm)

abbrev pub TypeS : (w opcode funct3 rs1 rs2 : ℕ) → ℤ → Type 0
TypeS w opcode funct3 rs1 rs2 imm = (opcode_of w ≡ opcode) × (funct3_of w ≡ funct3) × (rs1_of w ≡ rs1) × (rs2_of w ≡ rs2) × (imm_s w ≡ imm)

abbrev pub TypeB : (w opcode funct3 rs1 rs2 : ℕ) → ℤ → Type 0
TypeB w opcode funct3 rs1 rs2 imm = (opcode_of w ≡ opcode) × (funct3_of w ≡ funct3) × (rs1_of w ≡ rs1) × (rs2_of w ≡ rs2) × (imm_b w ≡ imm)

abbrev pub TypeU : (w opcode rd : ℕ) → ℤ → Type 0
TypeU w opcode rd imm = (opcode_of w ≡ opcode) × (rd_of w ≡ rd) × (imm_u w ≡ imm)

abbrev pub TypeJ : (w opcode rd : ℕ) → ℤ → Type 0
TypeJ w opcode rd imm = (opcode_of w ≡ opcode) × (rd_of w ≡ rd) × (imm_j w ≡ imm)

abbrev pub Holds : ℕ → Instruction → Type 0
Holds w (Lui rd imm) = TypeU w 0x37 rd imm
Holds w (Auipc rd imm) = TypeU w 0x17 rd imm
Holds w (Jal rd offset) = TypeJ w 0x6F rd offset
Holds w (Jalr rd rs1 offset) = TypeI w 0x67 0 rd rs1 offset
Holds w (Branch Beq rs1 rs2 offset) = TypeB w 0x63 0 rs1 rs2 offset
Holds w (Branch Bne rs1 rs2 offset) = TypeB w 0x63 1 rs1 rs2 offset
Holds w (Branch Blt rs1 rs2 offset) = TypeB w 0x63 4 rs1 rs2 offset
Holds w (Branch Bge rs1 rs2 offset) = TypeB w 0x63 5 rs1 rs2 offset
Holds w (Branch Bltu rs1 rs2 offset) = TypeB w 0x63 6 rs1 rs2 offset
Holds w (Branch Bgeu rs1 rs2 offset) = TypeB w 0x63 7 rs1 rs2 offset
Holds w (Load Lb rd rs1 offset) = TypeI w 0x03 0 rd rs1 offset
Holds w (Load Lh rd rs1 offset) = TypeI w 0x03 1 rd rs1 offset
Holds w (Load Lw rd rs1 offset) = TypeI w 0x03 2 rd rs1 offset
Holds w (Load Lbu rd rs1 offset) = TypeI w 0x03 4 rd rs1 offset
Holds w (Load Lhu rd rs1 offset) = TypeI w 0x03 5 rd rs1 offset
Holds w (Store Sb rs1 rs2 offset) = TypeS w 0x23 0 rs1 rs2 offset
Holds w (Store Sh rs1 rs2 offset) = TypeS w 0x23 1 rs1 rs2 offset
Holds w (Store Sw rs1 rs2 offset) = TypeS w 0x23 2 rs1 rs2 offset
Holds w (OpImm Addi rd rs1 imm) = TypeI w 0x13 0 rd rs1 imm
Holds w (OpImm Slti rd rs1 imm) = TypeI w 0x13 2 rd rs1 imm
Holds w (OpImm Sltiu rd rs1 imm) = TypeI w 0x13 3 rd rs1 imm
Holds w (OpImm Xori rd rs1 imm) = TypeI w 0x13 4 rd rs1 imm
Holds w (OpImm Ori rd rs1 imm) = TypeI w 0x13 6 rd rs1 imm
Holds w (OpImm Andi rd rs1 imm) = TypeI w 0x13 7 rd rs1 imm
Holds w (ShiftImm Slli rd rs1 shamt) = TypeR w 0x13 1 0x00 rd rs1 shamt
Holds w (ShiftImm Srli rd rs1 shamt) = TypeR w 0x13 5 0x00 rd rs1 shamt
Holds w (ShiftImm Srai rd rs1 shamt) = TypeR w 0x13 5 0x20 rd rs1 shamt
Holds w (Op Add rd rs1 rs2) = TypeR w 0x33 0 0x00 rd rs1 rs2
Holds w (Op Sub rd rs1 rs2) = TypeR w 0x33 0 0x20 rd rs1 rs2
Holds w (Op Sll rd rs1 rs2) = TypeR w 0x33 1 0x00 rd rs1 rs2
Holds w (Op Slt rd rs1 rs2) = TypeR w 0x33 2 0x00 rd rs1 rs2
Holds w (Op Sltu rd rs1 rs2) = TypeR w 0x33 3 0x00 rd rs1 rs2
Holds w (Op Xor rd rs1 rs2) = TypeR w 0x33 4 0x00 rd rs1 rs2
Holds w (Op Srl rd rs1 rs2) = TypeR w 0x33 5 0x00 rd rs1 rs2
Holds w (Op Sra rd rs1 rs2) = TypeR w 0x33 5 0x20 rd rs1 rs2
Holds w (Op Or rd rs1 rs2) = TypeR w 0x33 6 0x00 rd rs1 rs2
Holds w (Op And rd rs1 rs2) = TypeR w 0x33 7 0x00 rd rs1 rs2
Holds w Fence = (opcode_of w ≡ 0x0F) × (funct3_of w ≡ 0)
Holds w Ecall = w ≡ 0x00000073
Holds w Ebreak = w ≡ 0x00100073
