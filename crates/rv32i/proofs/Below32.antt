-- The registers of what a word decodes to are among the 32.
use Rattle.std.proofs.Common.{ℕ, ◌<◌, Bool, true, false, cond, eqb, Some, None, Ok, Err, Option, arith}
use Rattle.rv32i.specs.declared.causes.Cause.{Cause}
use Rattle.rv32i.specs.declared.causes.Cause.TheVariants.{Funct3, Funct7, System}
use Rattle.rv32i.specs.declared.operations.ImmOp.{ImmOp}
use Rattle.rv32i.specs.declared.instructions.Instruction.{Instruction}
use Rattle.rv32i.specs.declared.instructions.Instruction.TheVariants.{Fence, Ecall, Ebreak}
use Rattle.rv32i.specs.Fields.{opcode_of, rd_of, funct3_of, rs1_of, rs2_of, funct7_of}
use Rattle.rv32i.specs.Table.{Major, lui, auipc, jal, jalr, branch, load, store, op_imm, op, misc_mem, system}
use Rattle.rv32i.specs.Table.{major_at, branch_at, load_at, store_at, imm_at, shift_at, reg_at}
use Rattle.rv32i.specs.Decoded.{Decoding, named, decoded_by, decoded_as, decoded, op_imm_by}
use Rattle.rv32i.specs.Laws.{Registers, RegistersBelow32}

rd_lt : (w : ℕ) → rd_of w < 32
rd_lt w = omega arith

rs1_lt : (w : ℕ) → rs1_of w < 32
rs1_lt w = omega arith

rs2_lt : (w : ℕ) → rs2_of w < 32
rs2_lt w = omega arith

below_named : {A : Type 0} (c : Cause) (o : Option A) (make : A → Instruction) → ((a : A) → Registers (make a)) → RegistersBelow32 (named c o make)
below_named c (Some a) make h = h a
below_named c None make h = tt

below_cond : (b : Bool) (x y : Decoding) → RegistersBelow32 x → RegistersBelow32 y → RegistersBelow32 (cond b x y)
below_cond true x y h k = h
below_cond false x y h k = k

below_imm : (o : Option ImmOp) (w : ℕ) → RegistersBelow32 (op_imm_by o w)
below_imm (Some k) w = (rd_lt w, rs1_lt w)
below_imm None w = below_named Funct7 (shift_at (funct3_of w) (funct7_of w)) _ (λ k. (rd_lt w, rs1_lt w, rs2_lt w))

below_as : (m : Major) (w : ℕ) → RegistersBelow32 (decoded_as m w)
below_as lui w = rd_lt w
below_as auipc w = rd_lt w
below_as jal w = rd_lt w
below_as jalr w = below_cond (eqb (funct3_of w) 0) _ _ (rd_lt w, rs1_lt w) tt
below_as branch w = below_named Funct3 (branch_at (funct3_of w)) _ (λ k. (rs1_lt w, rs2_lt w))
below_as load w = below_named Funct3 (load_at (funct3_of w)) _ (λ k. (rd_lt w, rs1_lt w))
below_as store w = below_named Funct3 (store_at (funct3_of w)) _ (λ k. (rs1_lt w, rs2_lt w))
below_as op_imm w = below_imm (imm_at (funct3_of w)) w
below_as op w = below_named Funct7 (reg_at (funct3_of w) (funct7_of w)) _ (λ k. (rd_lt w, rs1_lt w, rs2_lt w))
below_as misc_mem w = below_cond (eqb (funct3_of w) 0) (Ok Fence) (Err Funct3) tt tt
below_as system w = below_cond (eqb w 0x00000073) (Ok Ecall) _ tt (below_cond (eqb w 0x00100073) (Ok Ebreak) (Err System) tt tt)

below_by : (o : Option Major) (w : ℕ) → RegistersBelow32 (decoded_by o w)
below_by (Some m) w = below_as m w
below_by None w = tt

pub registers_below : (w : ℕ) → RegistersBelow32 (decoded w)
registers_below w = below_by (major_at (opcode_of w)) w
