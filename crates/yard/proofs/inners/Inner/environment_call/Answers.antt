use Rattle.std.proofs.Common.{ap, ◌∙◌, arith}
use Rattle.std.proofs.lemmas.List.{length-map}
use Rattle.machine.specs.Registers.{value_of}
use Rattle.yard_steps.specs.Model.{Domain}
use Rattle.yard.specs.Shapes.{lead}
use Rattle.yard.specs.Views.{view}
use Rattle.yard.proofs.Turns.{to_host, to_gate}
use Rattle.yard.proofs.inners.Inner.environment_call.Goals as goal

pub returns-then-gate-eq0 : goal.returns-then-gate-eq0
returns-then-gate-eq0 g c = λ bs.
    let is = c.register-gate.ensures ∙ ap (λ (d : Domain). value_of d.registers 17) c.domain.ensures in
    c.host.ensures bs ∙ to_host (g.P.Policy.allowed c.args.policy.now) c.args.i.number c.register-gate.result (view c.args.self.now) bs is c.if-gate-eq0.true

pub returns-else-gate-eq31 : goal.returns-else-gate-eq31
returns-else-gate-eq31 g c = λ bs.
    let is = c.register-gate.ensures ∙ ap (λ (d : Domain). value_of d.registers 17) c.domain.ensures in
    let y = c.args.self.now in
    c.through_gate.ensures bs
    ∙ to_gate (g.P.Policy.allowed c.args.policy.now) c.args.i.number c.register-gate.result (view y) bs is c.if-gate-eq0.false c.if-gate-eq31.false (omega (arith, length-map y.gates lead))
