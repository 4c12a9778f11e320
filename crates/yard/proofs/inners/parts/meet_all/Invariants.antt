use Rattle.std.proofs.Common.{◌≡◌, ◌++◌, map, length, take, drop}
use Rattle.yard_steps.specs.Steps.{after}
use Rattle.yard.specs.Shapes.{shape}
use Rattle.yard.proofs.inners.parts.meet_all.Given as goal

abbrev pub invariant-loop-domain : goal.invariant-loop-domain
invariant-loop-domain l =
    (length l.domains ≡ 8) × (map shape l.domains ≡ map (after l.event) (take l.domain-index (map shape l.initial.domains)) ++ drop l.domain-index (map shape l.initial.domains))
