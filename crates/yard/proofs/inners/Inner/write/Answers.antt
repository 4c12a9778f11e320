use Rattle.std.proofs.Common.{arith}
use Rattle.machine.specs.Registers.{written}
use Rattle.yard_steps.specs.Steps.{turned}
use Rattle.yard.proofs.Rows.{changed}
use Rattle.yard.proofs.inners.Inner.write.Goals as goal

pub returns : goal.returns
returns c = changed c.args.self.now c.args.i.number _ _ (λ d. turned d (written d.registers c.args.rd c.args.value) c.args.pc) (omega arith) c.write.ensures
