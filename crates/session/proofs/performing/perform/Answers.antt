use Rattle.std.proofs.Common.{true, ◌++◌, vec_items, ap, ◌∙◌}
use Rattle.yard_steps.specs.Model.{new_yard}
use Rattle.session.specs.Performed.{State, answers_of}
use Rattle.session.specs.Views.{state_of, spoken}
use Rattle.session.proofs.Sayings.{then_under}
use Rattle.session.proofs.performing.perform.Goals as goal

pub returns : goal.returns
returns c =
    let g = c.in_ok-code.field-0 in
    let n = c.in-Some.size in
    let rest = c.in-Some.rest in
    let ts = spoken (vec_items g.answers) in
    let us = spoken (vec_items c.follow_all-result.new.self.answers) in
    let v = c.as_slice-store.ensures.value in
    let fresh = ap (λ (s : State). ts ++ answers_of s rest.now) (c.in_ok-session.ensures.is c.as_slice-store.result.now true) in
    record {
      is = rw c.finish-answers.ensures.is
          (then_under g.yard n rest g.memory g.policy (vec_items g.code) ts us _ c.in-Some.is
          (c.in_ok-result.ensures.is ∙ fresh ∙ (λ j. ts ++ answers_of (state_of g.memory g.policy (v j) true (new_yard (v j) n)) rest.now))
          c.in_ok-code.ensures.is);
    }
