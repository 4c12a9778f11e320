use Rattle.std.proofs.Common.{arith}
use Rattle.machine.specs.Executed.{next_of}
use Rattle.yard_steps.specs.Steps.{turned, after}
use Rattle.yard.proofs.Rows.{changed}
use Rattle.yard.proofs.inners.Inner.leave.Goals as goal

pub returns : goal.returns
returns c = changed c.args.self.now c.args.i.number _ _ (λ d. after c.args.event (turned d d.registers (next_of d.pc))) (omega arith) c.leave.ensures
