use Rattle.std.proofs.Common.{sym, ◌∙◌}
use Rattle.std.proofs.lemmas.Bool.{cond-false}
use Rattle.yard.proofs.inners.Inner.read.Goals as goal

pub returns-then-not-is-mapped : goal.returns-then-not-is-mapped
returns-then-not-is-mapped g c = λ A. c.halt.ensures _ ∙ sym (cond-false _ _ _ (sym c.is-mapped.ensures ∙ c.if-not-is-mapped.true))
