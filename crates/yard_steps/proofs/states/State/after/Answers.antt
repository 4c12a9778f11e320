use Rattle.yard_steps.proofs.Fenced.{fence}
use Rattle.yard_steps.proofs.Kept.{kept}
use Rattle.yard_steps.proofs.states.State.after.Goals as goal

pub returns : goal.returns
returns c = record { is = c.following.ensures; fence = fence; kept = kept }
