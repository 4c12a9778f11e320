-- What holds of a yard holds after a step.
use Rattle.yard_steps.specs.Fence.{Kept}
use Rattle.yard_steps.proofs.Outcomes.{outcome}

pub kept : Kept
kept A y bs W some calm = (outcome A y W some calm bs).whole
