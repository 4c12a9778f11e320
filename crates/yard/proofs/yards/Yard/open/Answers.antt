use Rattle.yard_steps.proofs.Hosts.{opened_whole}
use Rattle.yard.specs.Views.{view}
use Rattle.yard.proofs.Running.{left_whole}
use Rattle.yard.proofs.yards.Yard.open.Goals as goal

pub invariant_of-self : goal.invariant_of-self
invariant_of-self c =
    let y = c.args.self.now in
    record { whole = left_whole (view y.inner) _ _ _ c.open.ensures y.whole (λ h. opened_whole (view y.inner) c.args.gate c.args.domain c.args.offset h) }
