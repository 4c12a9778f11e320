-- The number of each of the decoder's causes. Assumes nothing.
use Rattle.std.specs.Prelude.{ℕ}
use Rattle.rv32i.specs.declared.causes.Cause.{Cause}
use Rattle.rv32i.specs.declared.causes.Cause.TheVariants.{Opcode, Funct3, Funct7, System}

abbrev pub cause_number : Cause → ℕ
cause_number Opcode = 1
cause_number Funct3 = 2
cause_number Funct7 = 3
cause_number System = 4
