-- The fence, of one step of a whole yard. Assumes nothing.
--   current y     the domain whose step it is
--   Stays         a byte that changes lies in the current domain's segment
--   Executes      the step is an RV32I word of the current domain's window
--   Faultless     a step stops with none of the causes 1, 2 and 3
--   Kept          the yard is whole again after it
--   Crosses       control passes to another domain only through an open gate that the policy allows, at its entry, or back to the
--                 caller, where it had left off
use Rattle.std.specs.Prelude.{◌≡◌, ℕ, ◌/◌, ◌<◌, Bool, true, ◌⊎◌, List, length, Some, Ok, ◌≢◌, slice_index}
use Rattle.rv32i.specs.declared.instructions.Instruction.{Instruction}
use Rattle.rv32i.specs.Decoded.{decoded}
use Rattle.segment.specs.Guards.{Inside}
use Rattle.domain.specs.Confined.{InCode}
use Rattle.steps.specs.declared.reports.Reason.TheVariants.{Stopped}
use Rattle.steps.specs.Model.{Entry, Yard, at, gate_at}
use Rattle.steps.specs.Steps.{Ending, stepped}
use Rattle.steps.specs.Whole.{Whole, placed}

abbrev pub current : Yard → ℕ
current y = slice_index y.chain 0

abbrev pub Stays : Type 0
Stays =
    (A : ℕ → ℕ → Bool) (y : Yard) (bs : List ℕ) → Whole y → 0 < length y.chain →
    (k : ℕ) → (slice_index (stepped A y bs).bytes k ≢ slice_index bs k) → Inside (at y (current y)).segment k

abbrev pub Executes : Type 0
Executes =
    (y : Yard) → Whole y → 0 < length y.chain →
    InCode (placed y (current y)) (at y (current y)).pc × ((i : Instruction) × (decoded (slice_index y.store ((at y (current y)).pc / 4)) ≡ Ok i))

abbrev pub Faultless : Type 0
Faultless =
    (A : ℕ → ℕ → Bool) (y : Yard) (bs : List ℕ) (e : Ending) → Whole y → 0 < length y.chain →
    (stepped A y bs).ended ≡ Some e → e.reason ≡ Stopped → 3 < e.first

abbrev pub Crosses : Type 0
Crosses =
    (A : ℕ → ℕ → Bool) (y : Yard) (bs : List ℕ) → Whole y → 0 < length y.chain →
    0 < length (stepped A y bs).yard.chain → (current (stepped A y bs).yard ≢ current y) →
    ((g : ℕ) × (e : Entry) × (gate_at y g ≡ Some e) × (A (current y) g ≡ true) × (current (stepped A y bs).yard ≡ e.domain) × ((at (stepped A y bs).yard e.domain).pc ≡ e.pc))
    ⊎ ((current (stepped A y bs).yard ≡ slice_index y.chain 1) × ((at (stepped A y bs).yard (slice_index y.chain 1)).pc ≡ (at y (slice_index y.chain 1)).pc))

abbrev pub Kept : Type 0
Kept = (A : ℕ → ℕ → Bool) (y : Yard) (bs : List ℕ) → Whole y → 0 < length y.chain → Whole (stepped A y bs).yard
