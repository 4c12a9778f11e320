-- The laws of decode and encode. Assumes nothing.
--   HoldsExactly w r     r is an instruction exactly where w holds it
--   EncodesAgain w r     the instruction that r is encodes to w, unless it is a FENCE
--   DecodesAgain i r     the word that r is decodes to i
--   NoWordExactly i r    r is no word exactly where a register exceeds 31 or the immediate has no such form
--   CauseOfTable w r     the cause that r is, is that of the listing
--   RegistersBelow32 r   the registers of the instruction that r is are among the 32
--   Examples             worked examples
use Rattle.std.specs.Prelude.{◌≡◌, ℕ, suc, ◌%◌, ◌<◌, ℤ, pos, negsuc, ◌≤ℤ◌, Some, None, Ok, Err, Option, ◌≢◌}
use Rattle.rv32i.specs.declared.causes.Cause.{Cause}
use Rattle.rv32i.specs.declared.causes.Cause.TheVariants.{Opcode, Funct3, Funct7, System}
use Rattle.rv32i.specs.declared.operations.ImmOp.TheVariants.{Addi}
use Rattle.rv32i.specs.declared.operations.ShiftOp.TheVariants.{Srai}
use Rattle.rv32i.specs.declared.instructions.Instruction.{Instruction}
use Rattle.rv32i.specs.declared.instructions.Instruction.TheVariants.{Lui, Auipc, Jal, Jalr, Branch, Load, Store, OpImm, ShiftImm, Op, Fence, Ecall, Ebreak}
use Rattle.rv32i.specs.Fields.{opcode_of, funct3_of, funct7_of}
use Rattle.rv32i.specs.Listing.{Holds}
use Rattle.rv32i.specs.Decoded.{Decoding, decoded}
use Rattle.rv32i.specs.Encoded.{encoded}

abbrev pub HoldsExactly : ℕ → Decoding → Type 0
HoldsExactly w r = (i : Instruction) → (Holds w i → r ≡ Ok i) × (r ≡ Ok i → Holds w i)

abbrev pub EncodesAgain : ℕ → Decoding → Type 0
EncodesAgain w r = (i : Instruction) → r ≡ Ok i → (i ≢ Fence) → encoded i ≡ Some w

abbrev pub DecodesAgain : Instruction → Option ℕ → Type 0
DecodesAgain i r = (w : ℕ) → r ≡ Some w → decoded w ≡ Ok i

-- z is a multiple of n
abbrev pub MultipleOf : ℕ → ℤ → Type 0
MultipleOf n (pos k) = k % n ≡ 0
MultipleOf n (negsuc k) = suc k % n ≡ 0

-- the immediates that formats I and S, B, U and J have; negsuc k is -(k + 1)
abbrev pub Has12 : ℤ → Type 0
Has12 z = (negsuc 2047 ≤ℤ z) × (z ≤ℤ pos 2047)

abbrev pub HasB : ℤ → Type 0
HasB z = (negsuc 4095 ≤ℤ z) × (z ≤ℤ pos 4095) × MultipleOf 2 z

abbrev pub HasU : ℤ → Type 0
HasU z = (negsuc 0x7FFFFFFF ≤ℤ z) × (z ≤ℤ pos 0x7FFFFFFF) × MultipleOf 4096 z

abbrev pub HasJ : ℤ → Type 0
HasJ z = (negsuc 1048575 ≤ℤ z) × (z ≤ℤ pos 1048575) × MultipleOf 2 z

-- every register and the immediate of an instruction has its form
abbrev pub HasWord : Instruction → Type 0
HasWord (Lui rd imm) = (rd < 32) × HasU imm
HasWord (Auipc rd imm) = (rd < 32) × HasU imm
HasWord (Jal rd offset) = (rd < 32) × HasJ offset
HasWord (Jalr rd rs1 offset) = (rd < 32) × (rs1 < 32) × Has12 offset
HasWord (Branch k rs1 rs2 offset) = (rs1 < 32) × (rs2 < 32) × HasB offset
HasWord (Load k rd rs1 offset) = (rd < 32) × (rs1 < 32) × Has12 offset
HasWord (Store k rs1 rs2 offset) = (rs1 < 32) × (rs2 < 32) × Has12 offset
HasWord (OpImm k rd rs1 imm) = (rd < 32) × (rs1 < 32) × Has12 imm
HasWord (ShiftImm k rd rs1 shamt) = (rd < 32) × (rs1 < 32) × (shamt < 32)
HasWord (Op k rd rs1 rs2) = (rd < 32) × (rs1 < 32) × (rs2 < 32)
HasWord Fence = Unit {0}
HasWord Ecall = Unit {0}
HasWord Ebreak = Unit {0}

abbrev pub NoWordExactly : Instruction → Option ℕ → Type 0
NoWordExactly i r = (r ≡ None → HasWord i → ⊥) × ((HasWord i → ⊥) → r ≡ None)

-- some word of RV32I has w's opcode; its opcode and funct3; its opcode, funct3 and funct7
abbrev pub KnownOpcode : ℕ → Type 0
KnownOpcode w = (v : ℕ) × (i : Instruction) × Holds v i × (opcode_of v ≡ opcode_of w)

abbrev pub KnownFunct3 : ℕ → Type 0
KnownFunct3 w = (v : ℕ) × (i : Instruction) × Holds v i × (opcode_of v ≡ opcode_of w) × (funct3_of v ≡ funct3_of w)

abbrev pub KnownFunct7 : ℕ → Type 0
KnownFunct7 w =
    (v : ℕ) × (i : Instruction) × Holds v i × (opcode_of v ≡ opcode_of w) × (funct3_of v ≡ funct3_of w) × (funct7_of v ≡ funct7_of w)

-- words of opcode 0x73 are told apart as a whole, so that no other cause applies to them
abbrev pub Caused : ℕ → Cause → Type 0
Caused w Opcode = KnownOpcode w → ⊥
Caused w Funct3 = (opcode_of w ≢ 0x73) × KnownOpcode w × (KnownFunct3 w → ⊥)
Caused w Funct7 = (opcode_of w ≢ 0x73) × KnownFunct3 w × (KnownFunct7 w → ⊥)
Caused w System = (opcode_of w ≡ 0x73) × (Holds w Ecall → ⊥) × (Holds w Ebreak → ⊥)

abbrev pub CauseOfTable : ℕ → Decoding → Type 0
CauseOfTable w r = (c : Cause) → r ≡ Err c → Caused w c

abbrev pub Registers : Instruction → Type 0
Registers (Lui rd imm) = rd < 32
Registers (Auipc rd imm) = rd < 32
Registers (Jal rd offset) = rd < 32
Registers (Jalr rd rs1 offset) = (rd < 32) × (rs1 < 32)
Registers (Branch k rs1 rs2 offset) = (rs1 < 32) × (rs2 < 32)
Registers (Load k rd rs1 offset) = (rd < 32) × (rs1 < 32)
Registers (Store k rs1 rs2 offset) = (rs1 < 32) × (rs2 < 32)
Registers (OpImm k rd rs1 imm) = (rd < 32) × (rs1 < 32)
Registers (ShiftImm k rd rs1 shamt) = (rd < 32) × (rs1 < 32) × (shamt < 32)
Registers (Op k rd rs1 rs2) = (rd < 32) × (rs1 < 32) × (rs2 < 32)
Registers Fence = Unit {0}
Registers Ecall = Unit {0}
Registers Ebreak = Unit {0}

abbrev pub RegistersBelow32 : Decoding → Type 0
RegistersBelow32 (Ok i) = Registers i
RegistersBelow32 (Err c) = Unit {0}

abbrev pub Examples : Type 0
Examples =
    (decoded 0xFFF00093 ≡ Ok (OpImm Addi 1 0 (negsuc 0)))
    × (decoded 0x40105093 ≡ Ok (ShiftImm Srai 1 0 1))
    × (decoded 0x20105093 ≡ Err Funct7)
    × (decoded 0x0000100F ≡ Err Funct3)
    × (decoded 0 ≡ Err Opcode)
    × (decoded 0x00200073 ≡ Err System)
