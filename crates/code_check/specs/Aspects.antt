-- What the rules ask of an instruction. Assumes nothing.
--   written i       the register that i writes
--   store_base i     the base register of a store
--   jump_base i      the base register and the offset of a JALR
--   offset i        the way from a branch or a JAL to its target, in bytes
--   leaves i        i is JAL, JALR or EBREAK: the word after it is never the next to run
--   pointers        both pointers
--   masks .. q      AND rd,rs1,rs2 is a mask word of q: AND x27,rs,x25 of Data, AND x26,rs,x23 of Code
--   bases .. q      OR rd,rs1,rs2 is a base word of q: OR x27,x27,x24 of Data, OR x26,x26,x22 of Code
--   mask_op k ..     the pointer of which the operation k is a mask word
--   base_op k ..     the pointer of which the operation k is a base word
--   mask_of i        the pointer of which i is a mask word
--   base_of i        the pointer of which i is a base word
--   any p o         o holds something that passes p
--   is_base_of q d    the word that decodes to d is a base word of q
use Rattle.std.specs.Prelude.{ℕ, Bool, true, false, ◌&&◌, List, [], ◌∷◌, ℤ, Some, None, Ok, Err, Option, ◌==◌, nat_eq}
use Rattle.rv32i.specs.declared.operations.RegOp.{RegOp}
use Rattle.rv32i.specs.declared.operations.RegOp.TheVariants.{Add, Sub, Sll, Slt, Sltu, Xor, Srl, Sra, Or, And}
use Rattle.rv32i.specs.declared.instructions.Instruction.{Instruction}
use Rattle.rv32i.specs.declared.instructions.Instruction.TheVariants.{Lui, Auipc, Jal, Jalr, Branch, Load, Store, OpImm, ShiftImm, Op, Fence, Ecall, Ebreak}
use Rattle.rv32i.specs.Table.{first}
use Rattle.rv32i.specs.Decoded.{Decoding}
use Rattle.code_check.specs.declared.pointers.Pointer.{Pointer}
use Rattle.code_check.specs.declared.pointers.Pointer.TheVariants.{Data, Code}
use Rattle.code_check.specs.Registers.{register, mask, base}

abbrev pub written : Instruction → Option ℕ
written (Lui rd imm) = Some rd
written (Auipc rd imm) = Some rd
written (Jal rd z) = Some rd
written (Jalr rd rs1 z) = Some rd
written (Branch k rs1 rs2 z) = None
written (Load k rd rs1 z) = Some rd
written (Store k rs1 rs2 z) = None
written (OpImm k rd rs1 z) = Some rd
written (ShiftImm k rd rs1 shamt) = Some rd
written (Op k rd rs1 rs2) = Some rd
written Fence = None
written Ecall = None
written Ebreak = None

abbrev pub store_base : Instruction → Option ℕ
store_base (Lui rd imm) = None
store_base (Auipc rd imm) = None
store_base (Jal rd z) = None
store_base (Jalr rd rs1 z) = None
store_base (Branch k rs1 rs2 z) = None
store_base (Load k rd rs1 z) = None
store_base (Store k rs1 rs2 z) = Some rs1
store_base (OpImm k rd rs1 z) = None
store_base (ShiftImm k rd rs1 shamt) = None
store_base (Op k rd rs1 rs2) = None
store_base Fence = None
store_base Ecall = None
store_base Ebreak = None

abbrev pub jump_base : Instruction → Option (ℕ × ℤ)
jump_base (Lui rd imm) = None
jump_base (Auipc rd imm) = None
jump_base (Jal rd z) = None
jump_base (Jalr rd rs1 z) = Some (rs1, z)
jump_base (Branch k rs1 rs2 z) = None
jump_base (Load k rd rs1 z) = None
jump_base (Store k rs1 rs2 z) = None
jump_base (OpImm k rd rs1 z) = None
jump_base (ShiftImm k rd rs1 shamt) = None
jump_base (Op k rd rs1 rs2) = None
jump_base Fence = None
jump_base Ecall = None
jump_base Ebreak = None

abbrev pub offset : Instruction → Option ℤ
offset (Lui rd imm) = None
offset (Auipc rd imm) = None
offset (Jal rd z) = Some z
offset (Jalr rd rs1 z) = None
offset (Branch k rs1 rs2 z) = Some z
offset (Load k rd rs1 z) = None
offset (Store k rs1 rs2 z) = None
offset (OpImm k rd rs1 z) = None
offset (ShiftImm k rd rs1 shamt) = None
offset (Op k rd rs1 rs2) = None
offset Fence = None
offset Ecall = None
offset Ebreak = None

abbrev pub leaves : Instruction → Bool
leaves (Lui rd imm) = false
leaves (Auipc rd imm) = false
leaves (Jal rd z) = true
leaves (Jalr rd rs1 z) = true
leaves (Branch k rs1 rs2 z) = false
leaves (Load k rd rs1 z) = false
leaves (Store k rs1 rs2 z) = false
leaves (OpImm k rd rs1 z) = false
leaves (ShiftImm k rd rs1 shamt) = false
leaves (Op k rd rs1 rs2) = false
leaves Fence = false
leaves Ecall = false
leaves Ebreak = true

abbrev pub pointers : List Pointer
pointers = Data ∷ Code ∷ []

abbrev pub masks : (rd rs2 : ℕ) → Pointer → Bool
masks rd rs2 q = rd == register q && rs2 == mask q

abbrev pub bases : (rd rs1 rs2 : ℕ) → Pointer → Bool
bases rd rs1 rs2 q = rd == register q && (rs1 == register q && rs2 == base q)

abbrev pub mask_op : RegOp → (rd rs1 rs2 : ℕ) → Option Pointer
mask_op Add rd rs1 rs2 = None
mask_op Sub rd rs1 rs2 = None
mask_op Sll rd rs1 rs2 = None
mask_op Slt rd rs1 rs2 = None
mask_op Sltu rd rs1 rs2 = None
mask_op Xor rd rs1 rs2 = None
mask_op Srl rd rs1 rs2 = None
mask_op Sra rd rs1 rs2 = None
mask_op Or rd rs1 rs2 = None
mask_op And rd rs1 rs2 = first (masks rd rs2) pointers

abbrev pub base_op : RegOp → (rd rs1 rs2 : ℕ) → Option Pointer
base_op Add rd rs1 rs2 = None
base_op Sub rd rs1 rs2 = None
base_op Sll rd rs1 rs2 = None
base_op Slt rd rs1 rs2 = None
base_op Sltu rd rs1 rs2 = None
base_op Xor rd rs1 rs2 = None
base_op Srl rd rs1 rs2 = None
base_op Sra rd rs1 rs2 = None
base_op Or rd rs1 rs2 = first (bases rd rs1 rs2) pointers
base_op And rd rs1 rs2 = None

abbrev pub mask_of : Instruction → Option Pointer
mask_of (Lui rd imm) = None
mask_of (Auipc rd imm) = None
mask_of (Jal rd z) = None
mask_of (Jalr rd rs1 z) = None
mask_of (Branch k rs1 rs2 z) = None
mask_of (Load k rd rs1 z) = None
mask_of (Store k rs1 rs2 z) = None
mask_of (OpImm k rd rs1 z) = None
mask_of (ShiftImm k rd rs1 shamt) = None
mask_of (Op k rd rs1 rs2) = mask_op k rd rs1 rs2
mask_of Fence = None
mask_of Ecall = None
mask_of Ebreak = None

abbrev pub base_of : Instruction → Option Pointer
base_of (Lui rd imm) = None
base_of (Auipc rd imm) = None
base_of (Jal rd z) = None
base_of (Jalr rd rs1 z) = None
base_of (Branch k rs1 rs2 z) = None
base_of (Load k rd rs1 z) = None
base_of (Store k rs1 rs2 z) = None
base_of (OpImm k rd rs1 z) = None
base_of (ShiftImm k rd rs1 shamt) = None
base_of (Op k rd rs1 rs2) = base_op k rd rs1 rs2
base_of Fence = None
base_of Ecall = None
base_of Ebreak = None

abbrev pub any : {A : Type 0} → (A → Bool) → Option A → Bool
any p None = false
any p (Some x) = p x

abbrev pub is_base_of : Pointer → Decoding → Bool
is_base_of q (Ok i) = any (λ b. nat_eq (register b) (register q)) (base_of i)
is_base_of q (Err c) = false
