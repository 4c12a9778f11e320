use Rattle.std.proofs.Common.{sym, ap, ◌∙◌, subst}
use mathlib.Core.Logic.{∥∥₁_map, ∥∥₁_elim}
use Rattle.yard_steps.specs.Steps.{After}
use Rattle.yard_steps.specs.Whole.{Whole}
use Rattle.yard_steps.proofs.Kept.{kept}
use Rattle.yard_steps.proofs.Outcomes.{outcome}
use Rattle.yard.specs.Views.{view}
use Rattle.yard.specs.Yards.{GoesOn}
use Rattle.yard.proofs.Room.{ready}
use Rattle.yard.proofs.Props.{ready_prop, goes_prop}
use Rattle.yard.proofs.yards.Yard.step.Goals as goal

pub step-requires : goal.step-requires
step-requires g c =
    let y = c.args.self.now in
    ∥∥₁_elim y.whole (ready_prop _ _) (λ h. ready (view y.inner) h c.requires.free c.requires.some)

pub invariant_of-self : goal.invariant_of-self
invariant_of-self g c =
    let y = c.args.self.now in
    let A = g.P.Policy.allowed c.args.policy.now in
    let bs = g.M.Memory.bytes c.args.memory.now in
    record { whole = ∥∥₁_map y.whole (λ h. subst Whole (sym (ap (λ (a : After). a.yard) c.step.ensures.is)) (kept A (view y.inner) bs h c.requires.some c.requires.free)) }

pub returns : goal.returns
returns g c =
    let y = c.args.self.now in
    let A = g.P.Policy.allowed c.args.policy.now in
    let bs = g.M.Memory.bytes c.args.memory.now in
    record {
      is = c.step.ensures.is;
      lent = c.step.ensures.lent;
      on = λ e. ∥∥₁_elim y.whole (goes_prop _)
          (λ h.
          let o = (outcome A (view y.inner) h c.requires.some c.requires.free bs).goes (sym (ap (λ (a : After). a.ended) c.step.ensures.is) ∙ e) in
          subst GoesOn (sym (ap (λ (a : After). a.yard) c.step.ensures.is)) (record { some = o.0; free = o.1 }));
    }
