use Rattle.std.proofs.Common.{arith}
use Rattle.yard_steps.specs.Calls.{answered}
use Rattle.yard.proofs.Rows.{changed}
use Rattle.yard.proofs.inners.Inner.answer.Goals as goal

pub returns : goal.returns
returns c = changed c.args.self.now c.args.i.number _ _ (λ d. answered c.args.value d) (omega arith) c.answer.ensures
