use Rattle.std.proofs.Common.{◌≡◌, Ok}
use Rattle.code_check.specs.Verdicts.{in_turn, passed_at}
use Rattle.code_check.proofs.checking.check_words.Given as goal

abbrev pub invariant-loop-place : goal.invariant-loop-place
invariant-loop-place l = in_turn (passed_at l.window) l.place ≡ Ok tt
