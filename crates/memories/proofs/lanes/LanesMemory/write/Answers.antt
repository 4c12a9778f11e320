use Rattle.std.proofs.Common.{◌/◌, ◌<◌, sym, arith}
use Rattle.std.proofs.lemmas.Bool.{lt-ltb}
use Rattle.memories.specs.Layout.{depth}
use Rattle.memories.proofs.Weave.{woven_length, lanes_written}
use Rattle.memories.proofs.lanes.LanesMemory.write.Goals as goal

pub returns : goal.returns
returns c =
    let m = c.args.self.now in
    let n = c.put.new.self in
    let e = c.put.ensures in
    let long = woven_length m.lane0.now m.lane1.now m.lane2.now m.lane3.now in
    let h : c.args.address / 4 < depth m.lane0.now m.lane1.now m.lane2.now m.lane3.now = omega (arith, c.depth.ensures.is) in
    let done = lanes_written m.lane0.now m.lane1.now m.lane2.now m.lane3.now n.lane0.now n.lane1.now n.lane2.now n.lane3.now m.lane0.ghost_name m.lane1.ghost_name m.lane2.ghost_name m.lane3.ghost_name n.lane0.ghost_name n.lane1.ghost_name n.lane2.ghost_name n.lane3.ghost_name c.args.address c.args.byte h e.lane0 e.lane1 e.lane2 e.lane3 e.lent in
    record { is = sym (lt-ltb _ _ (omega arith)); bytes = done.0; lent = done.1 }
