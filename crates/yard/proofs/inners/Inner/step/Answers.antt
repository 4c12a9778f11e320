use Rattle.std.proofs.Common.{refl, ap, ◌∙◌}
use Rattle.yard_steps.specs.Model.{Domain}
use Rattle.yard.specs.Views.{view}
use Rattle.yard.proofs.Turns.{fetch_stops}
use Rattle.yard.proofs.inners.Inner.step.Goals as goal

pub returns-in-Err : goal.returns-in-Err
returns-in-Err g c =
    let bs = g.M.Memory.bytes c.args.memory.now in
    record {
      is = c.halt.ensures bs
          ∙ fetch_stops (g.P.Policy.allowed c.args.policy.now) (view c.args.self.now) bs _ _ _ c.current-i.ensures (c.pc.ensures ∙ ap (λ (d : Domain). d.pc) c.domain.ensures) c.in-Err.ensures;
      lent = refl;
    }
