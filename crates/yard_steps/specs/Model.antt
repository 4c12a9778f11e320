-- The yard as a plain model. Assumes nothing.
--   Domain            a domain's registers, pc and state, its window by base and bits, its data segment
--   Entry             where a gate leads: a domain, and a pc in its window
--   Yard              the code store, the memory's size, the table of eight domains and how many of them are there, the gates by
--                     number, the chain of domains, current first, and whether a host call is pending
--   nobody            what stands in the table where no domain is
--   new_yard ws n      a yard over the store ws and a memory of n bytes, with no domain, entry or pending call
--   at y c            the domain numbered c
--   put y c d         the yard with that domain changed
--   chained y cs p    the yard with another chain, its host call pending or not
--   current y         the domain whose step is next: the first of the chain
--   gate_at y g        the entry of the gate g, if it has one
--   any_below n f      f holds of some number below n
--   mapped y a        a is the address of a byte of some domain's segment
--   some_active y      some domain is active
use Rattle.std.specs.Prelude.{ℕ, zero, suc, Bool, false, ◌||◌, List, [], replicate, None, Option, slice_index, slice_index_or, slice_set}
use Rattle.segment.specs.Guards.{Row, inside}
use Rattle.yard_steps.specs.declared.states.State.{State}
use Rattle.yard_steps.specs.declared.states.State.TheVariants.{Idle}
use Rattle.yard_steps.specs.States.{is_active}

pub record Domain : Type 0 where
  pub registers : List ℕ
  pub pc : ℕ
  pub state : State
  pub base : ℕ
  pub m : ℕ
  pub segment : Row

pub record Entry : Type 0 where
  pub domain : ℕ
  pub pc : ℕ

pub record Yard : Type 0 where
  pub store : List ℕ
  pub size : ℕ
  pub domains : List Domain
  pub count : ℕ
  pub gates : List (Option Entry)
  pub chain : List ℕ
  pub pending : Bool

abbrev pub nobody : Domain
nobody = record { registers = replicate 32 0; pc = 0; state = Idle; base = 0; m = 6; segment = record { base = 0; bits = 10 } }

abbrev pub new_yard : List ℕ → ℕ → Yard
new_yard ws n = record { store = ws; size = n; domains = replicate 8 nobody; count = 0; gates = replicate 31 None; chain = []; pending = false }

abbrev pub at : Yard → ℕ → Domain
at y c = slice_index_or y.domains c nobody

abbrev pub put : Yard → ℕ → Domain → Yard
put y c d = record { store = y.store; size = y.size; domains = slice_set y.domains c d; count = y.count; gates = y.gates; chain = y.chain; pending = y.pending }

abbrev pub chained : Yard → List ℕ → Bool → Yard
chained y cs p = record { store = y.store; size = y.size; domains = y.domains; count = y.count; gates = y.gates; chain = cs; pending = p }

abbrev pub current : Yard → ℕ
current y = slice_index y.chain 0

abbrev pub gate_at : Yard → ℕ → Option Entry
gate_at y g = slice_index_or y.gates g None

abbrev pub any_below : ℕ → (ℕ → Bool) → Bool
any_below zero f = false
any_below (suc n) f = f n || any_below n f

abbrev pub mapped : Yard → ℕ → Bool
mapped y a = any_below y.count (λ c. inside (at y c).segment a)

abbrev pub some_active : Yard → Bool
some_active y = any_below y.count (λ c. is_active (at y c).state)
