-- What a lender of four lanes learns.
-- lanes_bytes   the bytes of a memory of four lanes
-- lanes_lent    what was lent to it
-- lanes_depth   how many places of each lane count
-- LanesLender  the lanes are the same buffers, and hold the bytes bs, with what does not count as it was
-- Assumes nothing.
use Rattle.std.specs.Prelude.{◌≡◌, ℕ, List, ◌++◌, drop}
use Rattle.memory.specs.Loans.{Loan}
use Rattle.memories.specs.Layout.{depth, woven, lane_loans, column}
use Rattle.memories.specs.declared.lanes.Lanes.{Lanes}

abbrev pub lanes_bytes : Lanes → List ℕ
lanes_bytes m = woven m.lane0.now m.lane1.now m.lane2.now m.lane3.now

abbrev pub lanes_lent : Lanes → List Loan
lanes_lent m =
    lane_loans m.lane0.ghost_name m.lane1.ghost_name m.lane2.ghost_name m.lane3.ghost_name m.lane0.now m.lane1.now m.lane2.now m.lane3.now

abbrev pub lanes_depth : Lanes → ℕ
lanes_depth m = depth m.lane0.now m.lane1.now m.lane2.now m.lane3.now

pub record LanesLender (old new : Lanes) (bs : List ℕ) : Type 0 where
  pub name0 : new.lane0.ghost_name ≡ old.lane0.ghost_name
  pub name1 : new.lane1.ghost_name ≡ old.lane1.ghost_name
  pub name2 : new.lane2.ghost_name ≡ old.lane2.ghost_name
  pub name3 : new.lane3.ghost_name ≡ old.lane3.ghost_name
  pub now0 : new.lane0.now ≡ column 0 bs ++ drop (lanes_depth old) old.lane0.now
  pub now1 : new.lane1.now ≡ column 1 bs ++ drop (lanes_depth old) old.lane1.now
  pub now2 : new.lane2.now ≡ column 2 bs ++ drop (lanes_depth old) old.lane2.now
  pub now3 : new.lane3.now ≡ column 3 bs ++ drop (lanes_depth old) old.lane3.now
