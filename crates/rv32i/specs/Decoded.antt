-- What a word decodes to. Assumes nothing.
--   decoded w      the instruction that w holds, or the cause of its refusal
--   named c o f    the instruction that f makes of what o holds, or the cause c where o is empty
use Rattle.std.specs.Prelude.{ℕ, cond, Some, None, Ok, Err, Option, Result, ◌==◌}
use Rattle.rv32i.specs.declared.causes.Cause.{Cause}
use Rattle.rv32i.specs.declared.causes.Cause.TheVariants.{Opcode, Funct3, Funct7, System}
use Rattle.rv32i.specs.declared.operations.ImmOp.{ImmOp}
use Rattle.rv32i.specs.declared.instructions.Instruction.{Instruction}
use Rattle.rv32i.specs.declared.instructions.Instruction.TheVariants.{Lui, Auipc, Jal, Jalr, Branch, Load, Store, OpImm, ShiftImm, Op, Fence, Ecall, Ebreak}
use Rattle.rv32i.specs.Fields.{opcode_of, rd_of, funct3_of, rs1_of, rs2_of, funct7_of, imm_i, imm_s, imm_b, imm_u, imm_j}
use Rattle.rv32i.specs.Table.{Major, lui, auipc, jal, jalr, branch, load, store, op_imm, op, misc_mem, system}
use Rattle.rv32i.specs.Table.{major_at, branch_at, load_at, store_at, imm_at, shift_at, reg_at}

abbrev pub Decoding : Type 0
Decoding = Result Instruction Cause

abbrev pub named : {A : Type 0} → Cause → Option A → (A → Instruction) → Decoding
named c (Some a) make = Ok (make a)
named c None make = Err c

-- opcode OP-IMM: funct3 names an operation with an immediate, or else, with funct7, a shift
abbrev pub op_imm_by : Option ImmOp → ℕ → Decoding
op_imm_by (Some k) w = Ok (OpImm k (rd_of w) (rs1_of w) (imm_i w))
op_imm_by None w = named Funct7 (shift_at (funct3_of w) (funct7_of w)) (λ k. ShiftImm k (rd_of w) (rs1_of w) (rs2_of w))

abbrev pub op_imm_of : ℕ → Decoding
op_imm_of w = op_imm_by (imm_at (funct3_of w)) w

abbrev pub decoded_as : Major → ℕ → Decoding
decoded_as lui w = Ok (Lui (rd_of w) (imm_u w))
decoded_as auipc w = Ok (Auipc (rd_of w) (imm_u w))
decoded_as jal w = Ok (Jal (rd_of w) (imm_j w))
decoded_as jalr w = cond (funct3_of w == 0) (Ok (Jalr (rd_of w) (rs1_of w) (imm_i w))) (Err Funct3)
decoded_as branch w = named Funct3 (branch_at (funct3_of w)) (λ k. Branch k (rs1_of w) (rs2_of w) (imm_b w))
decoded_as load w = named Funct3 (load_at (funct3_of w)) (λ k. Load k (rd_of w) (rs1_of w) (imm_i w))
decoded_as store w = named Funct3 (store_at (funct3_of w)) (λ k. Store k (rs1_of w) (rs2_of w) (imm_s w))
decoded_as op_imm w = op_imm_of w
decoded_as op w = named Funct7 (reg_at (funct3_of w) (funct7_of w)) (λ k. Op k (rd_of w) (rs1_of w) (rs2_of w))
decoded_as misc_mem w = cond (funct3_of w == 0) (Ok Fence) (Err Funct3)
decoded_as system w = cond (w == 0x00000073) (Ok Ecall) (cond (w == 0x00100073) (Ok Ebreak) (Err System))

abbrev pub decoded_by : Option Major → ℕ → Decoding
decoded_by (Some m) w = decoded_as m w
decoded_by None w = Err Opcode

abbrev pub decoded : ℕ → Decoding
decoded w = decoded_by (major_at (opcode_of w)) w
