use Rattle.yard_steps.proofs.Hosts.{cut_whole}
use Rattle.yard.specs.Views.{view}
use Rattle.yard.proofs.Running.{left_whole}
use Rattle.yard.proofs.yards.Yard.cut.Goals as goal

pub invariant_of-self : goal.invariant_of-self
invariant_of-self c =
    let y = c.args.self.now in
    record { whole = left_whole (view y.inner) _ _ _ c.cut.ensures y.whole (λ h. cut_whole (view y.inner) h) }
