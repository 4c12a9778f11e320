-- The yard as a plain model. Assumes nothing.
--   Domain            a domain's registers, pc and state, its window by base and bits, its data segment
--   Entry             where a gate leads: a domain, and a pc in its window
--   Yard              the code store, the memory's size, the domains by number, the gates by number, the chain of domains, current
--                     first, and whether its host call is pending
--   nobody            what stands where there is no domain
--   at y c            the domain numbered c
--   put y c d         the yard with that domain changed
--   gate_at y g        the entry of the gate g, if it has one
--   mapped ds a       a is the address of a byte of some domain's segment
use Rattle.std.specs.Prelude.{ℕ, Bool, false, ◌||◌, List, [], ◌∷◌, replicate, None, Option, slice_index_or, slice_set}
use Rattle.segment.specs.Guards.{Row, inside}
use Rattle.steps.specs.declared.states.State.{State}
use Rattle.steps.specs.declared.states.State.TheVariants.{Idle}

pub record Domain : Type 0 where
  pub registers : List ℕ
  pub pc : ℕ
  pub state : State
  pub base : ℕ
  pub m : ℕ
  pub segment : Row

pub record Entry : Type 0 where
  pub domain : ℕ
  pub pc : ℕ

pub record Yard : Type 0 where
  pub store : List ℕ
  pub size : ℕ
  pub domains : List Domain
  pub gates : List (Option Entry)
  pub chain : List ℕ
  pub pending : Bool

abbrev pub nobody : Domain
nobody = record { registers = replicate 32 0; pc = 0; state = Idle; base = 0; m = 6; segment = record { base = 0; bits = 10 } }

abbrev pub at : Yard → ℕ → Domain
at y c = slice_index_or y.domains c nobody

abbrev pub put : Yard → ℕ → Domain → Yard
put y c d = record { store = y.store; size = y.size; domains = slice_set y.domains c d; gates = y.gates; chain = y.chain; pending = y.pending }

abbrev pub gate_at : Yard → ℕ → Option Entry
gate_at y g = slice_index_or y.gates g None

abbrev pub mapped : List Domain → ℕ → Bool
mapped [] a = false
mapped (d ∷ ds) a = inside d.segment a || mapped ds a
