-- Any of the built memories, which means what the one that was chosen means.
-- any_bytes   its bytes
-- any_few     there are fewer than 2^32 of them
-- any_lent    what was lent to it
-- Assumes nothing.
use Rattle.std.specs.Prelude.{ℕ, ◌^◌, ◌<◌, List, [], ◌∷◌, length}
use Rattle.memory.specs.Loans.{Loan}
use Rattle.memories.specs.Layout.{counted, uncounted, woven, lane_loans}
use Rattle.memories.specs.Few.{flat_few, lanes_few}
use Rattle.memories.specs.declared.any.AnyMemory.{AnyMemory}
use Rattle.memories.specs.declared.any.AnyMemory.TheVariants.{Flat, Lanes}

abbrev pub any_bytes : AnyMemory → List ℕ
any_bytes (Flat m) = counted m.buffer.now
any_bytes (Lanes m) = woven m.lane0.now m.lane1.now m.lane2.now m.lane3.now

pub any_few : (m : AnyMemory) → length (any_bytes m) < 2 ^ 32
any_few (Flat m) = flat_few m.buffer.now
any_few (Lanes m) = lanes_few m.lane0.now m.lane1.now m.lane2.now m.lane3.now

abbrev pub any_lent : AnyMemory → List Loan
any_lent (Flat m) = record { name = m.buffer.ghost_name; spare = uncounted m.buffer.now } ∷ []
any_lent (Lanes m) = lane_loans m.lane0.ghost_name m.lane1.ghost_name m.lane2.ghost_name m.lane3.ghost_name m.lane0.now m.lane1.now m.lane2.now m.lane3.now
