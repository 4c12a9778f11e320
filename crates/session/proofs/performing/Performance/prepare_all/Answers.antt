use Rattle.std.proofs.Common.{◌≡◌, ℕ, ◌+◌, false, List, ◌∷◌, ◌++◌, vec_items, Some, Option, ap, ◌∙◌, subst}
use Rattle.yard_script.specs.declared.commands.Command.{Command}
use Rattle.session.specs.Performed.{answers_of}
use Rattle.session.specs.Views.{view, spoken, told, or_yard}
use Rattle.session.proofs.Sayings.{loop_more, from_place}
use Rattle.session.proofs.performing.Performance.prepare_all.Goals as goal

pub returns-in-Some : goal.returns-in-Some
returns-in-Some c =
    let cs = c.args.commands.now in
    let i = c.loop-i.i in
    let q = c.prepare.new.self in
    let s = view q.session (vec_items c.prepare.new.code) false in
    let before = told c.loop-i.self (vec_items c.loop-i.code) false in
    let after = λ (o : Option ℕ) (ds : List Command). spoken (vec_items q.answers) ++ answers_of (or_yard o s) ds in
    let o = Some c.in-Some.size in
    let said = subst (λ (o : Option ℕ). (ds : List Command) → after o ds ≡ before (c.index-commands-i.result ∷ ds)) c.in-Some.is c.in_ok-size.ensures.is in
    record {
      is = ap (after o) (from_place cs (i + 1)) ∙ loop_more cs i c.index-commands-i.result before (after o) _ c.loop-i-test.true c.index-commands-i.is said c.loop-i.invariant;
    }
