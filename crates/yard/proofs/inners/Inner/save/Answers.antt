use Rattle.std.proofs.Common.{sym, refl, ◌∙◌}
use Rattle.std.proofs.lemmas.Bool.{cond-false}
use Rattle.yard.proofs.inners.Inner.save.Goals as goal

pub returns-then-not-is_mapped : goal.returns-then-not-is_mapped
returns-then-not-is_mapped g c =
    record { is = λ A. c.halt.ensures _ ∙ sym (cond-false _ _ _ (sym c.is_mapped.ensures ∙ c.if-not-is_mapped.true)); lent = refl }
