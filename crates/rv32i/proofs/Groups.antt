-- The listing by groups: a line for each group of the table in place of one for each instruction.
use Rattle.std.proofs.Common.{◌≡◌, ℕ}
use Rattle.rv32i.specs.declared.operations.BranchOp.TheVariants.{Beq, Bne, Blt, Bge, Bltu, Bgeu}
use Rattle.rv32i.specs.declared.operations.LoadOp.TheVariants.{Lb, Lh, Lw, Lbu, Lhu}
use Rattle.rv32i.specs.declared.operations.StoreOp.TheVariants.{Sb, Sh, Sw}
use Rattle.rv32i.specs.declared.operations.ImmOp.TheVariants.{Addi, Slti, Sltiu, Xori, Ori, Andi}
use Rattle.rv32i.specs.declared.operations.ShiftOp.TheVariants.{Slli, Srli, Srai}
use Rattle.rv32i.specs.declared.operations.RegOp.TheVariants.{Add, Sub, Sll, Slt, Sltu, Xor, Srl, Sra, Or, And}
use Rattle.rv32i.specs.declared.instructions.Instruction.{Instruction}
use Rattle.rv32i.specs.declared.instructions.Instruction.TheVariants.{Lui, Auipc, Jal, Jalr, Branch, Load, Store, OpImm, ShiftImm, Op, Fence, Ecall, Ebreak}
use Rattle.rv32i.specs.Fields.{opcode_of, funct3_of}
use Rattle.rv32i.specs.Table.{branch3, load3, store3, imm3, shift3, shift7, reg3, reg7}
use Rattle.rv32i.specs.Listing.{Holds, TypeR, TypeI, TypeS, TypeB, TypeU, TypeJ}

abbrev pub Grouped : ℕ → Instruction → Type 0
Grouped w (Lui rd imm) = TypeU w 0x37 rd imm
Grouped w (Auipc rd imm) = TypeU w 0x17 rd imm
Grouped w (Jal rd offset) = TypeJ w 0x6F rd offset
Grouped w (Jalr rd rs1 offset) = TypeI w 0x67 0 rd rs1 offset
Grouped w (Branch k rs1 rs2 offset) = TypeB w 0x63 (branch3 k) rs1 rs2 offset
Grouped w (Load k rd rs1 offset) = TypeI w 0x03 (load3 k) rd rs1 offset
Grouped w (Store k rs1 rs2 offset) = TypeS w 0x23 (store3 k) rs1 rs2 offset
Grouped w (OpImm k rd rs1 imm) = TypeI w 0x13 (imm3 k) rd rs1 imm
Grouped w (ShiftImm k rd rs1 shamt) = TypeR w 0x13 (shift3 k) (shift7 k) rd rs1 shamt
Grouped w (Op k rd rs1 rs2) = TypeR w 0x33 (reg3 k) (reg7 k) rd rs1 rs2
Grouped w Fence = (opcode_of w ≡ 0x0F) × (funct3_of w ≡ 0)
Grouped w Ecall = w ≡ 0x00000073
Grouped w Ebreak = w ≡ 0x00100073

pub grouped : (w : ℕ) (i : Instruction) → (Holds w i → Grouped w i) × (Grouped w i → Holds w i)
grouped w (Lui rd imm) = (λ h. h, λ h. h)
grouped w (Auipc rd imm) = (λ h. h, λ h. h)
grouped w (Jal rd offset) = (λ h. h, λ h. h)
grouped w (Jalr rd rs1 offset) = (λ h. h, λ h. h)
grouped w (Branch Beq rs1 rs2 offset) = (λ h. h, λ h. h)
grouped w (Branch Bne rs1 rs2 offset) = (λ h. h, λ h. h)
grouped w (Branch Blt rs1 rs2 offset) = (λ h. h, λ h. h)
grouped w (Branch Bge rs1 rs2 offset) = (λ h. h, λ h. h)
grouped w (Branch Bltu rs1 rs2 offset) = (λ h. h, λ h. h)
grouped w (Branch Bgeu rs1 rs2 offset) = (λ h. h, λ h. h)
grouped w (Load Lb rd rs1 offset) = (λ h. h, λ h. h)
grouped w (Load Lh rd rs1 offset) = (λ h. h, λ h. h)
grouped w (Load Lw rd rs1 offset) = (λ h. h, λ h. h)
grouped w (Load Lbu rd rs1 offset) = (λ h. h, λ h. h)
grouped w (Load Lhu rd rs1 offset) = (λ h. h, λ h. h)
grouped w (Store Sb rs1 rs2 offset) = (λ h. h, λ h. h)
grouped w (Store Sh rs1 rs2 offset) = (λ h. h, λ h. h)
grouped w (Store Sw rs1 rs2 offset) = (λ h. h, λ h. h)
grouped w (OpImm Addi rd rs1 imm) = (λ h. h, λ h. h)
grouped w (OpImm Slti rd rs1 imm) = (λ h. h, λ h. h)
grouped w (OpImm Sltiu rd rs1 imm) = (λ h. h, λ h. h)
grouped w (OpImm Xori rd rs1 imm) = (λ h. h, λ h. h)
grouped w (OpImm Ori rd rs1 imm) = (λ h. h, λ h. h)
grouped w (OpImm Andi rd rs1 imm) = (λ h. h, λ h. h)
grouped w (ShiftImm Slli rd rs1 shamt) = (λ h. h, λ h. h)
grouped w (ShiftImm Srli rd rs1 shamt) = (λ h. h, λ h. h)
grouped w (ShiftImm Srai rd rs1 shamt) = (λ h. h, λ h. h)
grouped w (Op Add rd rs1 rs2) = (λ h. h, λ h. h)
grouped w (Op Sub rd rs1 rs2) = (λ h. h, λ h. h)
grouped w (Op Sll rd rs1 rs2) = (λ h. h, λ h. h)
grouped w (Op Slt rd rs1 rs2) = (λ h. h, λ h. h)
grouped w (Op Sltu rd rs1 rs2) = (λ h. h, λ h. h)
grouped w (Op Xor rd rs1 rs2) = (λ h. h, λ h. h)
grouped w (Op Srl rd rs1 rs2) = (λ h. h, λ h. h)
grouped w (Op Sra rd rs1 rs2) = (λ h. h, λ h. h)
grouped w (Op Or rd rs1 rs2) = (λ h. h, λ h. h)
grouped w (Op And rd rs1 rs2) = (λ h. h, λ h. h)
grouped w Fence = (λ h. h, λ h. h)
grouped w Ecall = (λ h. h, λ h. h)
grouped w Ebreak = (λ h. h, λ h. h)
