-- The causes of a stop. Assumes nothing.
--   stop_row s   the number of the cause s, and its detail: what it is about
use Rattle.std.specs.Prelude.{ℕ}
use Rattle.machine.specs.declared.stops.Stop.{Stop}
use Rattle.machine.specs.declared.stops.Stop.TheVariants.{Fetch, Illegal, Target, Misaligned, Unmapped, NoGate, Forbidden, Busy, Break}

abbrev pub stop_row : Stop → ℕ × ℕ
stop_row (Fetch pc) = (1, pc)
stop_row (Illegal word) = (2, word)
stop_row (Target target) = (3, target)
stop_row (Misaligned address) = (4, address)
stop_row (Unmapped address) = (5, address)
stop_row (NoGate gate) = (6, gate)
stop_row (Forbidden gate) = (7, gate)
stop_row (Busy gate) = (8, gate)
stop_row Break = (9, 0)
