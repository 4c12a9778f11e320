use Rattle.std.proofs.Common.{arith}
use Rattle.yard_steps.specs.Steps.{after}
use Rattle.yard.proofs.Rows.{changed}
use Rattle.yard.proofs.inners.Inner.meet.Goals as goal

pub returns : goal.returns
returns c = changed c.args.self.now c.args.i.number _ _ (λ d. after c.args.event d) (omega arith) c.meet.ensures
