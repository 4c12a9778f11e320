use Rattle.std.proofs.Common.{sym, subst}
use Rattle.yard_steps.specs.Whole.{Whole}
use Rattle.yard_steps.proofs.Hosts.{new_whole}
use Rattle.yard.proofs.yards.Yard.new.Goals as goal

pub invariant_of-result : goal.invariant_of-result
invariant_of-result c = record { whole = ∣ subst Whole (sym c.in_ok-inner.ensures) (new_whole c.args.store.now c.args.size) ∣₁ }
