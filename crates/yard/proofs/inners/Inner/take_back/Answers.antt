use Rattle.std.proofs.Common.{arith}
use Rattle.machine.specs.Registers.{written}
use Rattle.yard_steps.specs.Steps.{turned}
use Rattle.yard.proofs.Rows.{changed}
use Rattle.yard.proofs.inners.Inner.take_back.Goals as goal

pub returns : goal.returns
returns c = changed c.args.self.now c.args.i.number _ _ (λ d. turned d (written (written d.registers 10 c.args.first) 11 c.args.second) d.pc) (omega arith) c.take_back.ensures
