-- What holds of every effect. Assumes nothing.
--   Aligned e   the address of an access is a multiple of its width, and the target of a jump of 4
use Rattle.std.specs.Prelude.{◌≡◌, ◌%◌}
use Rattle.machine.specs.declared.effects.Effect.{Effect}
use Rattle.machine.specs.declared.effects.Effect.TheVariants.{Set, Read, Write, Link, Jump, Next, Call, Stop}
use Rattle.machine.specs.Widths.{bytes_of, width_of}
use Rattle.machine.specs.Accesses.{load_width}

abbrev pub Aligned : Effect → Type 0
Aligned (Set rd v) = Unit {0}
Aligned (Read op rd a) = a % bytes_of (load_width op) ≡ 0
Aligned (Write a d) = a % bytes_of (width_of d) ≡ 0
Aligned (Link rd n t) = t % 4 ≡ 0
Aligned (Jump t) = t % 4 ≡ 0
Aligned Next = Unit {0}
Aligned Call = Unit {0}
Aligned (Stop s) = Unit {0}
