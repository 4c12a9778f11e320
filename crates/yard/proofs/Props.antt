-- What a step rests on, and what lets a run go on, hold in one way at most.
use Rattle.std.proofs.Common.{ℕ, false}
use mathlib.Core.Bool.{Bool-set}
use mathlib.Core.HLevel.{Π_prop}
use native.Mathlib.Bridge.{le_prop}
use Rattle.yard_steps.specs.States.{is_idle}
use Rattle.yard_steps.specs.Model.{Yard, at}
use Rattle.yard.specs.Views.{Ready}
use Rattle.yard.specs.Yards.{GoesOn}

pub ready_prop : (i : ℕ) (y : Yard) → IsProp (Ready i y)
ready_prop i y a b =
    λ j. record { awake = Bool-set (is_idle (at y i).state) false a.awake b.awake j; room = Π_prop (λ k. Π_prop (λ l. Π_prop (λ e. le_prop))) a.room b.room j }

pub goes_prop : (y : Yard) → IsProp (GoesOn y)
goes_prop y a b = λ j. record { some = le_prop a.some b.some j; free = Bool-set y.pending false a.free b.free j }
