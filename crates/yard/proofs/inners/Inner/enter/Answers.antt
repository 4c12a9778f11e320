use Rattle.std.proofs.Common.{arith}
use Rattle.yard_steps.specs.declared.states.Event.TheVariants.{Entered}
use Rattle.yard_steps.specs.Steps.{turned, after, handed}
use Rattle.yard.proofs.Rows.{changed}
use Rattle.yard.proofs.inners.Inner.enter.Goals as goal

pub returns : goal.returns
returns c = changed c.args.self.now c.args.entry.domain.number _ _ (λ d. after Entered (turned d (handed c.args.values d.registers) c.args.entry.pc)) (omega arith) c.enter.ensures
