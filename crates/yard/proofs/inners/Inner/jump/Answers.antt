use Rattle.std.proofs.Common.{arith}
use Rattle.yard_steps.specs.Steps.{turned}
use Rattle.yard.proofs.Rows.{changed}
use Rattle.yard.proofs.inners.Inner.jump.Goals as goal

pub returns : goal.returns
returns c = changed c.args.self.now c.args.i.number _ _ (λ d. turned d d.registers c.args.pc) (omega arith) c.jump.ensures
