-- One turn of a run.
use Rattle.std.proofs.Common.{◌≡◌, ℕ, zero, suc, ◌+◌, ◌-◌, ◌<◌, Bool, List, Some, None, sym, ap, ◌∙◌, subst, arith}
use mathlib.Core.Logic.{∥∥₁_map}
use Rattle.yard_steps.specs.declared.reports.Ending.{Ending}
use Rattle.yard_steps.specs.Model.{Yard}
use Rattle.yard_steps.specs.Steps.{After, stepped, on, ran}
use Rattle.yard_steps.specs.Whole.{Whole}
use Rattle.yard.specs.Views.{afterwards}
use Rattle.yard.specs.Yards.{counted, ran_to}

module _ (A : ℕ → ℕ → Bool) (y y' : Yard) (bs bs' : List ℕ) where
  -- the run goes on
  pub going : (k j n : ℕ) → 0 < k → j ≡ k - 1 → afterwards y' bs' None ≡ stepped A y bs → ran A j (n + 1) y' bs' ≡ ran A k n y bs
  going zero j n some less step = absurd (omega arith)
  going (suc k) j n some less step = ap (λ i. ran A i (n + 1) y' bs') (let same : j ≡ k = omega arith in same) ∙ ap (λ (a : After). on a (n + 1) (ran A k)) step

  -- it ends
  pub ending : (k n : ℕ) (e : Ending) → 0 < k → afterwards y' bs' (Some e) ≡ stepped A y bs → ran_to y' bs' (counted e (n + 1)) ≡ ran A k n y bs
  ending zero n e some step = absurd (omega arith)
  ending (suc k) n e some step = ap (λ (a : After). on a (n + 1) (ran A k)) step

-- a yard that a call leaves is whole
pub left_whole : {T : Type 0} (y z : Yard) (a : T) (p : Yard × T) → (z, a) ≡ p → ∥ Whole y ∥₁ → (Whole y → Whole p.0) → ∥ Whole z ∥₁
left_whole y z a p e w keeps = ∥∥₁_map w (λ h. subst Whole (sym (ap (λ q. q.0) e)) (keeps h))
