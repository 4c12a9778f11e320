-- What each instruction does. Assumes nothing.
--   next_of pc          the pc of the next word
--   even a             a with its bit 0 cleared
--   linked rd n t      a jump to t that leaves n in rd: a stop where t is no multiple of 4
--   branched b t       a branch to t, taken where b holds: a stop where it is taken and t is no multiple of 4
--   loads op rd a      a load from a into rd: a stop where a is no multiple of the width
--   stores op a v      a store of v at a: a stop where a is no multiple of the width
--   executed i xs pc   what the instruction i at pc does, where the registers hold xs
use Rattle.std.specs.Prelude.{ℕ, ◌+◌, ◌*◌, ◌/◌, ◌%◌, ◌^◌, Bool, cond, List, ◌==◌}
use Rattle.rv32i.specs.Encoded.{twos}
use Rattle.rv32i.specs.declared.operations.LoadOp.{LoadOp}
use Rattle.rv32i.specs.declared.operations.StoreOp.{StoreOp}
use Rattle.rv32i.specs.declared.instructions.Instruction.{Instruction}
use Rattle.rv32i.specs.declared.instructions.Instruction.TheVariants.{Lui, Auipc, Jal, Jalr, Branch, Load, Store, OpImm, ShiftImm, Op, Fence, Ecall, Ebreak}
use Rattle.machine.specs.declared.stops.Stop.TheVariants.{Target, Misaligned, Break}
use Rattle.machine.specs.declared.effects.Effect.{Effect}
use Rattle.machine.specs.declared.effects.Effect.TheVariants.{Set, Read, Write, Link, Jump, Next, Call, Stop}
use Rattle.machine.specs.Registers.{value_of}
use Rattle.machine.specs.Arithmetic.{plus, imm_value, shift_value, reg_value}
use Rattle.machine.specs.Branches.{is_taken}
use Rattle.machine.specs.Widths.{aligned}
use Rattle.machine.specs.Accesses.{load_width, store_width, datum_of}

abbrev pub next_of : ℕ → ℕ
next_of pc = (pc + 4) % 2 ^ 32

abbrev pub even : ℕ → ℕ
even a = a / 2 * 2

abbrev pub linked : (rd n t : ℕ) → Effect
linked rd n t = cond (t % 4 == 0) (Link rd n t) (Stop (Target t))

abbrev pub branched : Bool → ℕ → Effect
branched b t = cond b (cond (t % 4 == 0) (Jump t) (Stop (Target t))) Next

abbrev pub loads : LoadOp → (rd a : ℕ) → Effect
loads op rd a = cond (aligned (load_width op) a) (Read op rd a) (Stop (Misaligned a))

abbrev pub stores : StoreOp → (a v : ℕ) → Effect
stores op a v = cond (aligned (store_width op) a) (Write a (datum_of op v)) (Stop (Misaligned a))

abbrev pub executed : Instruction → List ℕ → ℕ → Effect
executed (Lui rd imm) xs pc = Set rd (twos 32 imm)
executed (Auipc rd imm) xs pc = Set rd (plus pc imm)
executed (Jal rd offset) xs pc = linked rd (next_of pc) (plus pc offset)
executed (Jalr rd rs1 offset) xs pc = linked rd (next_of pc) (even (plus (value_of xs rs1) offset))
executed (Branch op rs1 rs2 offset) xs pc = branched (is_taken op (value_of xs rs1) (value_of xs rs2)) (plus pc offset)
executed (Load op rd rs1 offset) xs pc = loads op rd (plus (value_of xs rs1) offset)
executed (Store op rs1 rs2 offset) xs pc = stores op (plus (value_of xs rs1) offset) (value_of xs rs2)
executed (OpImm op rd rs1 imm) xs pc = Set rd (imm_value op (value_of xs rs1) imm)
executed (ShiftImm op rd rs1 shamt) xs pc = Set rd (shift_value op (value_of xs rs1) shamt)
executed (Op op rd rs1 rs2) xs pc = Set rd (reg_value op (value_of xs rs1) (value_of xs rs2))
executed Fence xs pc = Next
executed Ecall xs pc = Call
executed Ebreak xs pc = Stop Break
