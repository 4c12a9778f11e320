use Rattle.std.proofs.Common.{◌≡◌, false, drop, vec_items}
use Rattle.session.specs.Views.{told}
use Rattle.session.proofs.performing.Performance.prepare_all.Given as goal

abbrev pub invariant-loop-i : goal.invariant-loop-i
invariant-loop-i l =
    told l.self (vec_items l.code) false (drop l.i l.commands) ≡ told l.initial.self (vec_items l.initial.code) false l.commands
