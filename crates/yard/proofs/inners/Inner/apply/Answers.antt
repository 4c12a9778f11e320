use Rattle.std.proofs.Common.{sym, refl, ap, ◌∙◌}
use Rattle.machine.specs.declared.effects.Effect.{Effect}
use Rattle.yard_steps.specs.Steps.{done}
use Rattle.yard.specs.Views.{view}
use Rattle.yard.proofs.inners.Inner.apply.Goals as goal

pub returns-in-Read : goal.returns-in-Read
returns-in-Read g c =
    let A = g.P.Policy.allowed c.args.policy.now in
    record { is = c.read.ensures A ∙ ap (λ (e : Effect). done A c.args.i.number e (view c.args.self.now) (g.M.Memory.bytes c.args.memory.now)) (sym c.in-Read.is); lent = refl }

pub returns-in-Write : goal.returns-in-Write
returns-in-Write g c =
    let A = g.P.Policy.allowed c.args.policy.now in
    record {
      is = c.save.ensures.is A ∙ ap (λ (e : Effect). done A c.args.i.number e (view c.args.self.now) (g.M.Memory.bytes c.args.memory.now)) (sym c.in-Write.is);
      lent = c.save.ensures.lent;
    }

pub returns-in-Stop : goal.returns-in-Stop
returns-in-Stop g c =
    let A = g.P.Policy.allowed c.args.policy.now in
    let bs = g.M.Memory.bytes c.args.memory.now in
    record { is = c.halt.ensures bs ∙ ap (λ (e : Effect). done A c.args.i.number e (view c.args.self.now) bs) (sym c.in-Stop.is); lent = refl }
