-- The calls of a yard: what each answers, and the yard after it. A call takes the lowest refusal that holds, and a refused call
-- leaves the yard as it was. Assumes nothing.
--   refusing b r y x          turned down with r where b holds, and otherwise x
--   gate_fits g                g is the number of a gate, 1 to 30
--   near y s                  fewer than 2,048 bytes lie between s and some domain's segment
--   fresh xs b m s            a domain that has just been admitted
--   admission y xs b m d k    the domain that is to be admitted, or the refusal
--   admitted y xs b m d k     admit: answers the number of the domain
--   opened y g d o            open: the gate g leads to the offset o of the window of the domain d
--   called_from y g vs         call: the host enters the gate g with seven numbers
--   run_refused y bs           why a run over the memory's bytes bs is turned down, if it is
--   Running                   what a run answers, and the yard and the memory's bytes after it
--   running A k y bs          run: a budget of k steps, under the policy A
--   replied y v               reply: the waiting domain gets v in x10 and goes on
--   cut_off y                  cut: every active domain stops
--   register_of y d n          register: what stands in the register n of the domain d
use Rattle.std.specs.Prelude.{ℕ, ◌+◌, ◌%◌, ◌^◌, Bool, false, cond, not, ◌&&◌, List, [], ◌∷◌, map, length, is_some, Some, None, Ok, Err, Option, Result, ◌==◌, nat_le, nat_lt, slice_set}
use Rattle.refusal.specs.declared.refusals.Refusal.{Refusal}
use Rattle.refusal.specs.declared.refusals.Refusal.TheVariants.{Crowded, SegmentNear, NoGate, GateTaken, GateEmpty, NoDomain, EntryOffset, NoRegister, HostPending, DomainActive, DomainStopped, NoneActive, MemorySize, NonePending}
use Rattle.refusal.specs.Told.{told}
use Rattle.segment.specs.Guards.{Row, apart}
use Rattle.segment.specs.Rows.{made}
use Rattle.code_check.specs.Windows.{windowed}
use Rattle.code_check.specs.Verdicts.{and_then, checked}
use Rattle.machine.specs.Registers.{value_of, written}
use Rattle.domain.specs.Confined.{started}
use Rattle.yard_steps.specs.declared.states.State.TheVariants.{Idle}
use Rattle.yard_steps.specs.declared.states.Event.TheVariants as event
use Rattle.yard_steps.specs.declared.reports.Report.{Report}
use Rattle.yard_steps.specs.States.{is_stopped}
use Rattle.yard_steps.specs.Model.{Domain, Entry, Yard, at, put, chained, current, gate_at, any_below, some_active}
use Rattle.yard_steps.specs.Steps.{Ran, turned, after, entered, ran}

abbrev pub refusing : {T : Type 0} → Bool → Refusal → Yard → Yard × Result T (List ℕ) → Yard × Result T (List ℕ)
refusing b r y x = cond b (y, Err (told r)) x

abbrev pub gate_fits : ℕ → Bool
gate_fits g = nat_le 1 g && nat_le g 30

-- admit

abbrev pub near : Yard → Row → Bool
near y s = any_below y.count (λ c. not (apart s (at y c).segment))

abbrev pub fresh : List ℕ → (b m : ℕ) → Row → Domain
fresh xs b m s = record { registers = xs; pc = b; state = Idle; base = b; m = m; segment = s }

abbrev pub admission : Yard → List ℕ → (b m d k : ℕ) → Result Domain (List ℕ)
admission y xs b m d k =
    cond (nat_lt y.count 8)
    (and_then (windowed y.store b m) (λ _.
    and_then (made d k y.size) (λ s.
    cond (near y s) (Err (told SegmentNear))
    (and_then (checked y.store b m) (λ _.
    and_then (started xs b m s) (λ rs.
    Ok (fresh rs b m s)))))))
    (Err (told Crowded))

abbrev pub with_domain : Yard → Domain → Yard
with_domain y d = record { store = y.store; size = y.size; domains = slice_set y.domains y.count d; count = y.count + 1; gates = y.gates; chain = y.chain; pending = y.pending }

abbrev pub settled : Yard → Result Domain (List ℕ) → Yard × Result ℕ (List ℕ)
settled y (Ok d) = (with_domain y d, Ok y.count)
settled y (Err e) = (y, Err e)

abbrev pub admitted : Yard → List ℕ → (b m d k : ℕ) → Yard × Result ℕ (List ℕ)
admitted y xs b m d k = settled y (admission y xs b m d k)

-- open

abbrev pub with_entry : Yard → ℕ → Entry → Yard
with_entry y g e = record { store = y.store; size = y.size; domains = y.domains; count = y.count; gates = slice_set y.gates g (Some e); chain = y.chain; pending = y.pending }

-- the offset of a word of the window
abbrev pub offset_fits : Domain → ℕ → Bool
offset_fits d o = o % 4 == 0 && nat_lt o (2 ^ d.m)

abbrev pub opened : Yard → (g d o : ℕ) → Yard × Result (Unit {0}) (List ℕ)
opened y g d o =
    refusing (not (gate_fits g)) NoGate y
    (refusing (is_some (gate_at y g)) GateTaken y
    (refusing (nat_le y.count d) NoDomain y
    (refusing (not (offset_fits (at y d) o)) EntryOffset y
    (with_entry y g (record { domain = d; pc = (at y d).base + o }), Ok tt))))

-- call

abbrev pub through_gate : Option Entry → List ℕ → Yard → Yard × Result (Unit {0}) (List ℕ)
through_gate None vs y = (y, Err (told GateEmpty))
through_gate (Some e) vs y =
    refusing y.pending HostPending y
    (refusing (some_active y) DomainActive y
    (refusing (is_stopped (at y e.domain).state) DomainStopped y
    (chained (put y e.domain (entered vs e (at y e.domain))) (e.domain ∷ []) false, Ok tt)))

abbrev pub called_from : Yard → ℕ → List ℕ → Yard × Result (Unit {0}) (List ℕ)
called_from y g vs = refusing (not (gate_fits g)) NoGate y (through_gate (gate_at y g) vs y)

-- run

abbrev pub run_refused : Yard → List ℕ → Option Refusal
run_refused y bs =
    cond y.pending (Some HostPending) (cond (some_active y) (cond (length bs == y.size) None (Some MemorySize)) (Some NoneActive))

pub record Running : Type 0 where
  pub yard : Yard
  pub bytes : List ℕ
  pub answer : Result Report (List ℕ)

abbrev pub or_refused : Option Refusal → Yard → List ℕ → Ran → Running
or_refused (Some r) y bs a = record { yard = y; bytes = bs; answer = Err (told r) }
or_refused None y bs a = record { yard = a.yard; bytes = a.bytes; answer = Ok a.report }

abbrev pub running : (ℕ → ℕ → Bool) → ℕ → Yard → List ℕ → Running
running A k y bs = or_refused (run_refused y bs) y bs (ran A k 0 y bs)

-- reply

abbrev pub answered : ℕ → Domain → Domain
answered v d = after event.Reply (turned d (written d.registers 10 v) d.pc)

abbrev pub replied : Yard → ℕ → Yard × Result (Unit {0}) (List ℕ)
replied y v =
    refusing (not y.pending) NonePending y
    (chained (put y (current y) (answered v (at y (current y)))) y.chain false, Ok tt)

-- cut

abbrev pub cut_off : Yard → Yard × Result (Unit {0}) (List ℕ)
cut_off y =
    refusing y.pending HostPending y
    (refusing (not (some_active y)) NoneActive y
    (record { store = y.store; size = y.size; domains = map (after event.Cut) y.domains; count = y.count; gates = y.gates; chain = []; pending = false }, Ok tt))

-- register

abbrev pub register_of : Yard → (d n : ℕ) → Result ℕ (List ℕ)
register_of y d n = cond (nat_le y.count d) (Err (told NoDomain)) (cond (nat_lt 31 n) (Err (told NoRegister)) (Ok (value_of (at y d).registers n)))
