use Rattle.yard_steps.proofs.Hosts.{called_whole}
use Rattle.yard.specs.Views.{view}
use Rattle.yard.proofs.Running.{left_whole}
use Rattle.yard.proofs.yards.Yard.call.Goals as goal

pub invariant_of-self : goal.invariant_of-self
invariant_of-self c =
    let y = c.args.self.now in
    record { whole = left_whole (view y.inner) _ _ _ c.call.ensures y.whole (λ h. called_whole (view y.inner) c.args.gate c.args.values h) }
