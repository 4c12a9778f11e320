use Rattle.std.proofs.Common.{Option, ap, ◌∙◌}
use Rattle.yard_steps.specs.Model.{Entry}
use Rattle.yard_steps.specs.Steps.{gated}
use Rattle.yard.specs.Views.{view}
use Rattle.yard.proofs.inners.Inner.through_gate.Goals as goal

pub returns-in-None : goal.returns-in-None
returns-in-None g c = λ bs.
    c.halt.ensures bs
    ∙ ap (λ (o : Option Entry). gated (g.P.Policy.allowed c.args.policy.now) o c.args.gate c.args.i.number (view c.args.self.now) bs) c.in-None.ensures
