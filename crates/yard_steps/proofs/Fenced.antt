-- Every step of a run is fenced.
use Rattle.std.proofs.Common.{◌≡◌, ℕ, zero, suc, ◌<◌, Bool, false, List, length, Some, None, Option, refl, ap, ◌∙◌}
use Rattle.std.specs.List.{AllByRecursion}
use Rattle.rv32i.specs.Decoded.{decoded}
use Rattle.refusal.specs.declared.refusals.Refusal.{Refusal}
use Rattle.domain.proofs.Steps.{confined}
use Rattle.yard_steps.specs.declared.reports.Ending.{Ending}
use Rattle.yard_steps.specs.Model.{Yard, at, current}
use Rattle.yard_steps.specs.Steps.{stepped}
use Rattle.yard_steps.specs.Calls.{run_refused}
use Rattle.yard_steps.specs.Whole.{Whole, placed}
use Rattle.yard_steps.specs.Fence.{Moment, Executes, Fenced, moment_of, going_on, moments, unless_refused, Fence}
use Rattle.yard_steps.proofs.Words.{own_place}
use Rattle.yard_steps.proofs.Outcomes.{outcome}
use Rattle.yard_steps.proofs.Runs.{runnable}

going : (P : Moment → Type 0) (o : Option Ending) (ms : List Moment) → (o ≡ None → AllByRecursion P ms) → AllByRecursion P (going_on o ms)
going P None ms h = h refl
going P (Some e) ms h = tt

unless : (P : Moment → Type 0) (o : Option Refusal) (ms : List Moment) → (o ≡ None → AllByRecursion P ms) → AllByRecursion P (unless_refused o ms)
unless P None ms h = h refl
unless P (Some r) ms h = tt

all_fenced : (A : ℕ → ℕ → Bool) (k : ℕ) (y : Yard) (bs : List ℕ) → Whole y → 0 < length y.chain → y.pending ≡ false → AllByRecursion (Fenced A) (moments A k y bs)
all_fenced A zero y bs W some calm = tt
all_fenced A (suc k) y bs W some calm =
    let c = current y in
    let a = stepped A y bs in
    let o = outcome A y W some calm bs in
    let lt = W.chained 0 some in
    let t = confined (placed y c) (at y c).registers (at y c).pc (W.admitted c lt) (W.confined c lt) in
    let executes : Executes (moment_of y bs a) = ((W.confined c lt).place, (t.0, ap decoded (own_place y W c lt) ∙ t.1)) in (
      record { stays = o.stays; executes = executes; crosses = o.crosses; faultless = o.faultless },
      going (Fenced A) a.ended (moments A k a.yard a.bytes) (λ e. let g = o.goes e in all_fenced A k a.yard a.bytes o.whole g.0 g.1),
    )

pub fence : Fence
fence A k y bs W = unless (Fenced A) (run_refused y bs) (moments A k y bs) (λ e. let t = runnable y bs W e in all_fenced A k y bs W t.0 t.1)
