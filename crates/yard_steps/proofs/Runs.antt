-- A run leaves a whole yard.
use Rattle.std.proofs.Common.{◌≡◌, ℕ, zero, suc, ◌+◌, ◌<◌, Bool, true, false, cond, eqb, List, length, Some, None, Option, refl, inl, arith}
use Rattle.refusal.specs.declared.refusals.Refusal.{Refusal}
use Rattle.refusal.specs.declared.refusals.Refusal.TheVariants.{HostPending, NoneActive, MemorySize}
use Rattle.yard_steps.specs.declared.states.State.{State}
use Rattle.yard_steps.specs.declared.states.State.TheVariants.{Idle, Active, AtHost, Stopped}
use Rattle.yard_steps.specs.declared.reports.Ending.{Ending}
use Rattle.yard_steps.specs.States.{is_active}
use Rattle.yard_steps.specs.Model.{Yard, at, some_active}
use Rattle.yard_steps.specs.Steps.{Ran, stepped, on, ran}
use Rattle.yard_steps.specs.Calls.{run_refused, or_refused, running}
use Rattle.yard_steps.specs.Whole.{Whole}
use Rattle.yard_steps.proofs.Below.{one_below}
use Rattle.yard_steps.proofs.Outcomes.{outcome}

active_is : (s : State) → is_active s ≡ true → s ≡ Active
active_is Active e = refl
active_is Idle e = absurd (let z : ◌≡◌ {A = ℕ} 0 1 = cc in omega arith)
active_is AtHost e = absurd (let z : ◌≡◌ {A = ℕ} 0 1 = cc in omega arith)
active_is Stopped e = absurd (let z : ◌≡◌ {A = ℕ} 0 1 = cc in omega arith)

unrefused : (p a m : Bool) → cond p (Some HostPending) (cond a (cond m None (Some MemorySize)) (Some NoneActive)) ≡ None → (p ≡ false) × (a ≡ true)
unrefused true a m e = absurd (let z : ◌≡◌ {A = ℕ} 0 1 = cc in omega arith)
unrefused false true m e = (refl, refl)
unrefused false false m e = absurd (let z : ◌≡◌ {A = ℕ} 0 1 = cc in omega arith)

-- a run that is not turned down has a domain to go on with
pub runnable : (y : Yard) (bs : List ℕ) → Whole y → run_refused y bs ≡ None → (0 < length y.chain) × (y.pending ≡ false)
runnable y bs W e =
    let t = unrefused y.pending (some_active y) (eqb (length bs) y.size) e in
    let j = one_below y.count (λ c. is_active (at y c).state) t.1 in
    let o = W.alone j.0 j.1 (inl (active_is _ j.2)) in
    let l = o.1 in
    (omega arith, t.0)

on_whole : (o : Option Ending) (y : Yard) (bs : List ℕ) (n : ℕ) (go : ℕ → Yard → List ℕ → Ran) → Whole y → (o ≡ None → Whole (go n y bs).yard) →
    Whole (on (record { yard = y; bytes = bs; ended = o }) n go).yard
on_whole None y bs n go W h = h refl
on_whole (Some e) y bs n go W h = W

pub ran_whole : (A : ℕ → ℕ → Bool) (k n : ℕ) (y : Yard) (bs : List ℕ) → Whole y → 0 < length y.chain → y.pending ≡ false → Whole (ran A k n y bs).yard
ran_whole A zero n y bs W some calm = W
ran_whole A (suc k) n y bs W some calm =
    let a = stepped A y bs in
    let o = outcome A y W some calm bs in
    on_whole a.ended a.yard a.bytes (n + 1) (ran A k) o.whole (λ e. let g = o.goes e in ran_whole A k (n + 1) a.yard a.bytes o.whole g.0 g.1)

refused_whole : (o : Option Refusal) (y : Yard) (bs : List ℕ) (a : Ran) → Whole y → (o ≡ None → Whole a.yard) → Whole (or_refused o y bs a).yard
refused_whole None y bs a W h = h refl
refused_whole (Some r) y bs a W h = W

pub running_whole : (A : ℕ → ℕ → Bool) (k : ℕ) (y : Yard) (bs : List ℕ) → Whole y → Whole (running A k y bs).yard
running_whole A k y bs W =
    refused_whole (run_refused y bs) y bs (ran A k 0 y bs) W (λ e. let t = runnable y bs W e in ran_whole A k 0 y bs W t.0 t.1)
