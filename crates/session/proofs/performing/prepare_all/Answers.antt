use Rattle.std.proofs.Common.{◌≡◌, ℕ, false, List, [], ◌++◌, vec_items, ◌∙◌}
use Rattle.memories.specs.Layout.{counted}
use Rattle.policy.specs.declared.any.AnyPolicy.{AnyPolicy}
use Rattle.yard_steps.specs.Model.{new_yard}
use Rattle.session.specs.Performed.{State, start, answers_of}
use Rattle.session.specs.Views.{view, spoken}
use Rattle.session.proofs.performing.prepare_all.Goals as goal

abbrev begun : List ℕ → List ℕ → AnyPolicy → State
begun code bs p = record { bytes = counted bs; policy = p; code = code; under = false; yard = new_yard [] 0 }

pub returns : goal.returns
returns c =
    let code = c.new-code.ensures.items in
    let bytes = c.new.ensures.items in
    let rights = c.no_rights.ensures.is in
    let said = c.new-3.ensures.items in
    let fresh : view c.in_ok-session.session (vec_items c.new-code.result) false ≡ start =
    c.in_ok-session.ensures.is (vec_items c.new-code.result) false ∙ (λ i. begun (code i) (bytes i) (rights i))
    in
    record { is = rw c.finish-memory.ensures.is (c.in_ok-yard.ensures.is ∙ (λ i. spoken (said i) ++ answers_of (fresh i) c.args.commands.now)) }
