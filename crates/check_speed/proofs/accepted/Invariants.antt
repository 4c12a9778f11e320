use Rattle.std.proofs.Common.{◌≤◌}
use Rattle.check_speed.proofs.accepted.Given as goal

abbrev pub invariant-loop-round : goal.invariant-loop-round
invariant-loop-round l = l.count ≤ l.round
