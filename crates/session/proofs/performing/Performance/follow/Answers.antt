use Rattle.std.proofs.Common.{true, vec_items}
use Rattle.std.proofs.lemmas.Result.{IfOk-weaker}
use Rattle.session.specs.Views.{view, spoken}
use Rattle.session.proofs.Sayings.{yard_more}
use Rattle.session.proofs.performing.Performance.follow.Goals as goal

pub returns-in-Yard : goal.returns-in-Yard
returns-in-Yard c =
    let p = c.args.self.now in
    let ws = c.args.store.now in
    record {
      is = IfOk-weaker c.renew.result _ _
          (λ _ e. yard_more (view p.session ws true) (view c.renew.new.self ws true) c.args.command.now c.in-Yard.size (spoken (vec_items p.answers)) c.in-Yard.is (e true))
          c.renew.ensures.is;
    }
