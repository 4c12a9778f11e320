use Rattle.std.proofs.Common.{ap, ◌∙◌}
use Rattle.buffers.specs.Bytes.{bytes_of}
use Rattle.policy.specs.Choice.{any_allows}
use Rattle.yard.specs.Yards.{seen}
use Rattle.session.specs.Holds.{holding}
use Rattle.session.proofs.Pendings.{run_held}
use Rattle.session.proofs.sessions.Session.run.Goals as goal

pub invariant_of-self : goal.invariant_of-self
invariant_of-self c =
    let s = c.args.self.now in
    let o = c.run-outcome.result in record {
      held = c.hold.ensures.held
          ∙ ap (λ b. holding b o) s.held
          ∙ run_held (any_allows s.policy) c.args.budget (seen s.yard) (seen c.run-outcome.new.yard) (bytes_of s.memory) (bytes_of c.run-outcome.new.buffers) o
          c.run-outcome.ensures.is c.run-outcome.ensures.token;
    }
