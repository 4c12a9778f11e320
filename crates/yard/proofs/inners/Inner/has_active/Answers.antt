use Rattle.std.proofs.Common.{◌∙◌, take, rules, tests, arith}
use Rattle.std.proofs.lemmas.Iterator.{YieldsList-from_slice}
use Rattle.std.proofs.lemmas.Iterator.Search.{any_from_yields_List}
use Rattle.yard_steps.specs.States.{is_active}
use Rattle.yard.specs.declared.domains.Domain.{Domain}
use Rattle.yard.proofs.Rows.{any_row}
use Rattle.yard.proofs.inners.Inner.has_active.Goals as goal

pub returns : goal.returns
returns c =
    let y = c.args.self.now in
    any_from_yields_List (λ (d : Domain). is_active d.state) _ _ _ c.any.ensures.ran (YieldsList-from_slice (take y.count y.domains) cc) (λ x b q k. search (rules, tests))
    ∙ any_row (λ d. is_active d.state) y.domains y.count (omega arith)
