-- The fence: what holds of every step of a run. Assumes nothing.
--   Moment              a step of a run: the yard and the memory's bytes before it and after it, and how it ended the run, if it did
--   Stays m             a byte that changes lies in the current domain's segment, and the memory's size is kept
--   Executes m          the step is an RV32I word of the current domain's window
--   Enters A m          the domain that is current afterwards is that of an open gate that the policy A allows, at the gate's entry
--   Returns m           it is the caller, at the pc where it had left off, right after an ECALL
--   Crosses A m         control passes to another domain only in one of these two ways
--   Faultless m         the step stops with none of the causes 1, 2 and 3
--   Fenced A m          all of these
--   moments A k y bs    the steps of a run of at most k
--   moments_of A k y bs  the steps of a run that is asked for: none, where it is turned down
--   FencedRun A k y bs  each of them is fenced
--   Fence               every run of a whole yard, over every memory and every policy, is fenced
--   Kept                the yard is whole again after every step
use Rattle.std.specs.Prelude.{◌≡◌, ℕ, zero, suc, ◌/◌, ◌<◌, Bool, true, false, ◌⊎◌, List, [], ◌∷◌, length, Some, None, Ok, Option, ◌≢◌, slice_index, slice_index_or}
use Rattle.std.specs.List.{AllByRecursion}
use Rattle.rv32i.specs.declared.instructions.Instruction.{Instruction}
use Rattle.rv32i.specs.Decoded.{decoded}
use Rattle.refusal.specs.declared.refusals.Refusal.{Refusal}
use Rattle.segment.specs.Guards.{Inside}
use Rattle.domain.specs.Confined.{InCode}
use Rattle.yard_steps.specs.declared.reports.Ending.{Ending}
use Rattle.yard_steps.specs.declared.reports.Reason.TheVariants.{Stopped}
use Rattle.yard_steps.specs.Model.{Entry, Yard, at, current, gate_at}
use Rattle.yard_steps.specs.Steps.{After, stepped}
use Rattle.yard_steps.specs.Calls.{run_refused}
use Rattle.yard_steps.specs.Whole.{Called, Whole, placed}

pub record Moment : Type 0 where
  pub before : Yard
  pub bytes : List ℕ
  pub after : Yard
  pub bytes_after : List ℕ
  pub ended : Option Ending

pub record Stays (m : Moment) : Type 0 where
  pub size : length m.bytes_after ≡ length m.bytes
  pub own : (k : ℕ) → (slice_index m.bytes_after k ≢ slice_index m.bytes k) → Inside (at m.before (current m.before)).segment k

abbrev pub Executes : Moment → Type 0
Executes m =
    let c = current m.before in
    let pc = (at m.before c).pc in
    InCode (placed m.before c) pc × ((i : Instruction) × (decoded (slice_index m.before.store (pc / 4)) ≡ Ok i))

abbrev pub Enters : (ℕ → ℕ → Bool) → Moment → Type 0
Enters A m =
    (g : ℕ) × (e : Entry) × (gate_at m.before g ≡ Some e) × (A (current m.before) g ≡ true) × (current m.after ≡ e.domain) × ((at m.after e.domain).pc ≡ e.pc)

abbrev pub Returns : Moment → Type 0
Returns m =
    let k = slice_index_or m.before.chain 1 0 in
    (current m.after ≡ k) × ((at m.after k).pc ≡ (at m.before k).pc) × Called m.before k

abbrev pub Crosses : (ℕ → ℕ → Bool) → Moment → Type 0
Crosses A m = 0 < length m.after.chain → (current m.after ≢ current m.before) → Enters A m ⊎ Returns m

abbrev pub Faultless : Moment → Type 0
Faultless m = (e : Ending) → m.ended ≡ Some e → e.reason ≡ Stopped → 3 < e.first

pub record Fenced (A : ℕ → ℕ → Bool) (m : Moment) : Type 0 where
  pub stays : Stays m
  pub executes : Executes m
  pub crosses : Crosses A m
  pub faultless : Faultless m

abbrev pub moment_of : Yard → List ℕ → After → Moment
moment_of y bs a = record { before = y; bytes = bs; after = a.yard; bytes_after = a.bytes; ended = a.ended }

-- what follows a step that does not end the run
abbrev pub going_on : Option Ending → List Moment → List Moment
going_on None ms = ms
going_on (Some e) ms = []

abbrev pub moments : (ℕ → ℕ → Bool) → ℕ → Yard → List ℕ → List Moment
moments A zero y bs = []
moments A (suc k) y bs = moment_of y bs (stepped A y bs) ∷ going_on (stepped A y bs).ended (moments A k (stepped A y bs).yard (stepped A y bs).bytes)

abbrev pub unless_refused : Option Refusal → List Moment → List Moment
unless_refused None ms = ms
unless_refused (Some r) ms = []

abbrev pub moments_of : (ℕ → ℕ → Bool) → ℕ → Yard → List ℕ → List Moment
moments_of A k y bs = unless_refused (run_refused y bs) (moments A k y bs)

abbrev pub FencedRun : (ℕ → ℕ → Bool) → ℕ → Yard → List ℕ → Type 0
FencedRun A k y bs = AllByRecursion (Fenced A) (moments_of A k y bs)

abbrev pub Fence : Type 0
Fence = (A : ℕ → ℕ → Bool) (k : ℕ) (y : Yard) (bs : List ℕ) → Whole y → FencedRun A k y bs

abbrev pub Kept : Type 0
Kept = (A : ℕ → ℕ → Bool) (y : Yard) (bs : List ℕ) → Whole y → 0 < length y.chain → y.pending ≡ false → Whole (stepped A y bs).yard
