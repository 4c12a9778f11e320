use Rattle.std.proofs.Common.{sym, ap, ◌∙◌}
use Rattle.std.proofs.lemmas.Bool.{cond-true, cond-false}
use Rattle.yard_steps.specs.States.{is_idle}
use Rattle.yard_steps.specs.Model.{Domain}
use Rattle.yard.proofs.inners.Inner.call_entry.Goals as goal

pub returns-then-not-allows : goal.returns-then-not-allows
returns-then-not-allows g c = λ bs. c.halt.ensures bs ∙ sym (cond-false _ _ _ (sym c.allows.ensures.is ∙ c.if-not-allows.true))

pub returns-then-not-is_idle : goal.returns-then-not-is_idle
returns-then-not-is_idle g c = λ bs.
    let busy = sym (ap (λ (d : Domain). is_idle d.state) c.domain.ensures) ∙ (sym c.is_idle.ensures ∙ c.if-not-is_idle.true) in
    c.halt-then-not-is_idle.ensures bs ∙ sym (cond-true _ _ _ (sym c.allows.ensures.is ∙ c.if-not-allows.false) ∙ cond-false _ _ _ busy)
