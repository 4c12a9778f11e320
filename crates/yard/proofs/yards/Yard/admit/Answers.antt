use Rattle.std.proofs.Common.{arith}
use Rattle.yard_steps.proofs.Hosts.{admitted_whole}
use Rattle.yard.specs.Views.{view}
use Rattle.yard.proofs.Running.{left_whole}
use Rattle.yard.proofs.yards.Yard.admit.Goals as goal

pub invariant_of-self : goal.invariant_of-self
invariant_of-self c =
    let y = c.args.self.now in
    record { whole = left_whole (view y.inner) _ _ _ c.admit.ensures y.whole (λ h. admitted_whole (view y.inner) c.args.registers c.args.base c.args.m c.args.data c.args.k h (omega arith)) }
