-- The widths of loads and stores. Assumes nothing.
--   bytes_of w     how many bytes an access of width w has
--   aligned w a   whether the address a is a multiple of that
--   width_of d     the width of what is stored
use Rattle.std.specs.Prelude.{ℕ, ◌%◌, Bool, ◌==◌}
use Rattle.machine.specs.declared.widths.Width.{Width}
use Rattle.machine.specs.declared.widths.Width.TheVariants.{Byte, Half, Word}
use Rattle.machine.specs.declared.widths.Datum.{Datum}
use Rattle.machine.specs.declared.widths.Datum.TheVariants.{U8, U16, U32}

abbrev pub bytes_of : Width → ℕ
bytes_of Byte = 1
bytes_of Half = 2
bytes_of Word = 4

abbrev pub aligned : Width → ℕ → Bool
aligned w a = a % bytes_of w == 0

abbrev pub width_of : Datum → Width
width_of (U8 n) = Byte
width_of (U16 n) = Half
width_of (U32 n) = Word
