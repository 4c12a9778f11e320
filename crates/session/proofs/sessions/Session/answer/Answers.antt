use Rattle.std.proofs.Common.{sym, ap, ◌∙◌}
use Rattle.session.specs.Performed.{performed}
use Rattle.session.specs.Views.{view}
use Rattle.session.proofs.sessions.Session.answer.Goals as goal

pub returns-in-Run : goal.returns-in-Run
returns-in-Run c = record {
  is = λ under. c.run.ensures.is c.args.code.now under ∙ ap (λ x. performed x (view c.args.self.now c.args.code.now under)) (sym c.in-Run.is);
}

pub returns-in-Reply : goal.returns-in-Reply
returns-in-Reply c = record {
  is = λ under. c.reply.ensures.is c.args.code.now under ∙ ap (λ x. performed x (view c.args.self.now c.args.code.now under)) (sym c.in-Reply.is);
}
