use Rattle.steps.proofs.Stays.{stays, executes}
use Rattle.steps.proofs.Fenced.{faultless, crosses}
use Rattle.steps.proofs.Kept.{kept}
use Rattle.steps.proofs.states.State.after.Goals as goal

pub returns : goal.returns
returns c = record { is = c.following.ensures; stays = stays; executes = executes; faultless = faultless; crosses = crosses; kept = kept }
