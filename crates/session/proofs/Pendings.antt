-- Where a yard waits for the host after a run: exactly where the run asked it.
use Rattle.std.proofs.Common.{◌≡◌, ℕ, zero, suc, ◌+◌, Bool, true, false, cond, eqb, ltb, List, [], ◌∷◌, length, Some, None, Ok, Err, Option, Result, sym, refl, ap, ◌∙◌, subst, arith}
use Rattle.std.proofs.lemmas.Bool.{cond_both}
use Rattle.refusal.specs.declared.refusals.Refusal.{Refusal}
use Rattle.refusal.specs.declared.refusals.Refusal.TheVariants.{HostPending, NoneActive, MemorySize}
use Rattle.rv32i.specs.declared.instructions.Instruction.{Instruction}
use Rattle.machine.specs.declared.stops.Stop.{Stop}
use Rattle.machine.specs.declared.stops.Stop.TheVariants.{Unmapped, NoGate, Forbidden, Busy}
use Rattle.machine.specs.declared.effects.Effect.{Effect}
use Rattle.machine.specs.declared.effects.Effect.TheVariants as effect
use Rattle.machine.specs.Stops.{stop_row}
use Rattle.machine.specs.Registers.{value_of}
use Rattle.machine.specs.Executed.{executed}
use Rattle.yard_steps.specs.declared.reports.Ending.{Ending}
use Rattle.yard_steps.specs.declared.reports.Reason.{Reason}
use Rattle.yard_steps.specs.declared.reports.Reason.TheVariants.{Host, Stopped, Finished, Spent}
use Rattle.yard_steps.specs.declared.reports.Report.{Report}
use Rattle.yard_steps.specs.States.{is_idle}
use Rattle.yard_steps.specs.Model.{Entry, Yard, at, current, gate_at, mapped, some_active}
use Rattle.yard_steps.specs.Steps.{After, Ran, told, went, rest, halted, hosted, returned_to, gated, called, done, performed, fetched, stepped, on, ran}
use Rattle.yard_steps.specs.Calls.{Running, run_refused, or_refused, running}
use Rattle.yard.specs.declared.pendings.Outcome.{Outcome}
use Rattle.yard.specs.declared.pendings.Outcome.TheVariants.{Ended, Asked}
use Rattle.yard.specs.Yards.{answered_by, Tokened}
use Rattle.session.specs.Holds.{holding}

abbrev is_host : Reason → Bool
is_host Host = true
is_host Stopped = false
is_host Finished = false
is_host Spent = false

not_host : (r : Reason) → (r ≡ Host → ⊥) → is_host r ≡ false
not_host Host n = absurd (n refl)
not_host Stopped n = refl
not_host Finished n = refl
not_host Spent n = refl

abbrev awaits : Option Ending → Bool
awaits None = false
awaits (Some e) = is_host e.reason

-- a step

record Awaits (a : After) : Type 0 where
  is : a.yard.pending ≡ awaits a.ended

told_pending : (cs : List ℕ) (a b : ℕ) (y : Yard) → (told cs a b y).pending ≡ y.pending
told_pending [] a b y = refl
told_pending (c ∷ cs) a b y = refl

went_awaits : (y : Yard) (bs : List ℕ) → y.pending ≡ false → Awaits (went y bs)
went_awaits y bs calm = record { is = calm }

hosted_awaits : (c : ℕ) (y : Yard) (bs : List ℕ) → Awaits (hosted c y bs)
hosted_awaits c y bs = record { is = refl }

halted_awaits : (s : Stop) (c : ℕ) (y : Yard) (bs : List ℕ) → Awaits (halted s c y bs)
halted_awaits s c y bs = record { is = told_pending (rest y.chain) 0xFFFFFFFF (stop_row s).0 _ }

returned_awaits : (ks : List ℕ) (c : ℕ) (y : Yard) (bs : List ℕ) → Awaits (returned_to ks c y bs)
returned_awaits [] c y bs = record { is = refl }
returned_awaits (k ∷ ks) c y bs = record { is = refl }

gated_awaits : (A : ℕ → ℕ → Bool) (o : Option Entry) (g c : ℕ) (y : Yard) (bs : List ℕ) → Awaits (gated A o g c y bs)
gated_awaits A None g c y bs = halted_awaits (NoGate g) c y bs
gated_awaits A (Some e) g c y bs =
    cond_both (A c g) _ _ Awaits
    (λ _. cond_both (is_idle (at y e.domain).state) _ _ Awaits (λ _. went_awaits _ _ refl) (λ _. halted_awaits (Busy g) c y bs))
    (λ _. halted_awaits (Forbidden g) c y bs)

called_awaits : (A : ℕ → ℕ → Bool) (c : ℕ) (y : Yard) (bs : List ℕ) → Awaits (called A c y bs)
called_awaits A c y bs =
    let g = value_of (at y c).registers 17 in
    cond_both (eqb g 0) _ _ Awaits (λ _. hosted_awaits c y bs)
    (λ _. cond_both (eqb g 31) _ _ Awaits (λ _. returned_awaits (rest y.chain) c y bs)
    (λ _. cond_both (ltb g 31) _ _ Awaits (λ _. gated_awaits A (gate_at y g) g c y bs) (λ _. halted_awaits (NoGate g) c y bs)))

done_awaits : (A : ℕ → ℕ → Bool) (c : ℕ) (e : Effect) (y : Yard) (bs : List ℕ) → y.pending ≡ false → Awaits (done A c e y bs)
done_awaits A c (effect.Set rd v) y bs calm = record { is = calm }
done_awaits A c (effect.Read op rd a) y bs calm = cond_both (mapped y a) _ _ Awaits (λ _. went_awaits _ _ calm) (λ _. halted_awaits (Unmapped a) c y bs)
done_awaits A c (effect.Write a x) y bs calm = cond_both (mapped y a) _ _ Awaits (λ _. went_awaits _ _ calm) (λ _. halted_awaits (Unmapped a) c y bs)
done_awaits A c (effect.Link rd n t) y bs calm = record { is = calm }
done_awaits A c (effect.Jump t) y bs calm = record { is = calm }
done_awaits A c effect.Next y bs calm = record { is = calm }
done_awaits A c effect.Call y bs calm = called_awaits A c y bs
done_awaits A c (effect.Stop s) y bs calm = halted_awaits s c y bs

performed_awaits : (A : ℕ → ℕ → Bool) (c : ℕ) (f : Result Instruction Stop) (y : Yard) (bs : List ℕ) → y.pending ≡ false → Awaits (performed A c f y bs)
performed_awaits A c (Ok i) y bs calm = done_awaits A c (executed i (at y c).registers (at y c).pc) y bs calm
performed_awaits A c (Err s) y bs calm = halted_awaits s c y bs

stepped_awaits : (A : ℕ → ℕ → Bool) (y : Yard) (bs : List ℕ) → y.pending ≡ false → Awaits (stepped A y bs)
stepped_awaits A y bs calm = performed_awaits A (current y) (fetched y.store (at y (current y)).pc) y bs calm

-- a run

abbrev Settled : Ran → Type 0
Settled r = r.yard.pending ≡ is_host r.report.reason

on_settled : (o : Option Ending) (y : Yard) (bs : List ℕ) (n : ℕ) (go : ℕ → Yard → List ℕ → Ran) → y.pending ≡ awaits o → (o ≡ None → Settled (go n y bs)) →
    Settled (on (record { yard = y; bytes = bs; ended = o }) n go)
on_settled None y bs n go e h = h refl
on_settled (Some x) y bs n go e h = e

ran_settled : (A : ℕ → ℕ → Bool) (k n : ℕ) (y : Yard) (bs : List ℕ) → y.pending ≡ false → Settled (ran A k n y bs)
ran_settled A zero n y bs calm = calm
ran_settled A (suc k) n y bs calm =
    let a = stepped A y bs in
    let h = (stepped_awaits A y bs calm).is in
    on_settled a.ended a.yard a.bytes (n + 1) (ran A k) h (λ e. ran_settled A k (n + 1) a.yard a.bytes (h ∙ ap awaits e))

abbrev settles : (before after : Bool) → Result Report (List ℕ) → Type 0
settles p q (Ok r) = (p ≡ false) × (q ≡ is_host r.reason)
settles p q (Err e) = q ≡ p

abbrev Settles : Bool → Running → Type 0
Settles p x = settles p x.yard.pending x.answer

refused_settles : (o : Option Refusal) (y : Yard) (bs : List ℕ) (a : Ran) → (o ≡ None → (y.pending ≡ false) × Settled a) → Settles y.pending (or_refused o y bs a)
refused_settles None y bs a h = h refl
refused_settles (Some r) y bs a h = refl

calm_run : (p a m : Bool) → cond p (Some HostPending) (cond a (cond m None (Some MemorySize)) (Some NoneActive)) ≡ None → p ≡ false
calm_run true a m e = absurd (let z : ◌≡◌ {A = ℕ} 0 1 = cc in omega arith)
calm_run false a m e = refl

running_settles : (A : ℕ → ℕ → Bool) (k : ℕ) (y : Yard) (bs : List ℕ) → Settles y.pending (running A k y bs)
running_settles A k y bs =
    refused_settles (run_refused y bs) y bs (ran A k 0 y bs)
    (λ e. let calm = calm_run y.pending (some_active y) (eqb (length bs) y.size) e in (calm, ran_settled A k 0 y bs calm))

answered_settles : (A : ℕ → ℕ → Bool) (k : ℕ) (y z : Yard) (bs cs : List ℕ) (o : Result Outcome Refusal) → answered_by z cs o ≡ running A k y bs → Settles y.pending (answered_by z cs o)
answered_settles A k y z bs cs o e = subst (Settles y.pending) (sym e) (running_settles A k y bs)

-- a pending call is held exactly where the yard waits
pub run_held : (A : ℕ → ℕ → Bool) (k : ℕ) (y z : Yard) (bs cs : List ℕ) (o : Result Outcome Refusal) → answered_by z cs o ≡ running A k y bs → Tokened o → holding y.pending o ≡ z.pending
run_held A k y z bs cs (Ok (Ended r)) e n = let t = answered_settles A k y z bs cs (Ok (Ended r)) e in t.0 ∙ sym (t.1 ∙ not_host r.reason n)
run_held A k y z bs cs (Ok (Asked r q)) e h = let t = answered_settles A k y z bs cs (Ok (Asked r q)) e in sym (t.1 ∙ ap is_host h)
run_held A k y z bs cs (Err x) e _ = sym (answered_settles A k y z bs cs (Err x) e)
