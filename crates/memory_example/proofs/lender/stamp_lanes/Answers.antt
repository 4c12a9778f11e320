use Rattle.memories.proofs.Lending.{lanes_lender}
use Rattle.memory_example.proofs.lender.stamp_lanes.Goals as goal

pub returns : goal.returns
returns c = record { bytes = lanes_lender c.args.memory.now c.stamp.new.memory _ c.stamp.ensures.bytes c.stamp.ensures.lent }
