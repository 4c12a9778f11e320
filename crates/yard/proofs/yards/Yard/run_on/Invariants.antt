use Rattle.std.proofs.Common.{◌≡◌, ◌-◌, ◌≤◌}
use Rattle.yard_steps.specs.Steps.{ran}
use Rattle.yard.specs.Yards.{seen, GoesOn}
use Rattle.yard.proofs.yards.Yard.run_on.Given as goal

-- what remains of the run is the whole of it
abbrev pub invariant-loop-count : goal.invariant-loop-count
invariant-loop-count g l =
    let A = g.P.Policy.allowed l.policy in
    (l.count ≤ l.budget)
    × GoesOn (seen l.self)
    × (ran A (l.budget - l.count) l.count (seen l.self) (g.M.Memory.bytes l.memory) ≡ ran A l.budget 0 (seen l.initial.self) (g.M.Memory.bytes l.initial.memory))
    × (g.M.Memory.lent l.memory ≡ g.M.Memory.lent l.initial.memory)

abbrev pub decreases-loop-count : goal.decreases-loop-count
decreases-loop-count g l = l.budget - l.count
