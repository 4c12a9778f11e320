use Rattle.domain.proofs.Starts.{starts}
use Rattle.domain.proofs.Steps.{confined, enters}
use Rattle.domain.proofs.start.Goals as goal

pub returns : goal.returns
returns c = record { is = c.dedicate.ensures; starts = starts; enters = enters; confines = confined }
