use Rattle.std.proofs.Common.{◌≡◌, true, drop}
use Rattle.session.specs.Views.{told}
use Rattle.session.proofs.performing.Performance.follow_all.Given as goal

abbrev pub invariant-loop-command : goal.invariant-loop-command
invariant-loop-command l = told l.self l.store true (drop l.command-index l.commands) ≡ told l.initial.self l.store true l.commands
