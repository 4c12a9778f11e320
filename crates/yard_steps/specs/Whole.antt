-- What holds of a yard between two words. Assumes nothing.
--   placed y c       the domain c as its window and its segment
--   at_work p n       the state of the n-th of the chain, where a host call is pending if p: all are active, but the current one is
--                    at host while its call is pending
--   InChain y c      the domain c is on the chain
--   Called y c       the word before the pc of the domain c is ECALL
--   Whole y          the windows were accepted and the segments are sound, apart and inside the memory; every domain is confined;
--                    one that is idle has its pointers in their blocks; the chain is of the yard's domains, none of them twice,
--                    each at work and behind an ECALL if it is a caller, and nobody else is at work; a pending call is that of the
--                    current domain; the entries of gates lie in their windows
use Rattle.std.specs.Prelude.{◌≡◌, ℕ, zero, suc, ◌+◌, ◌<◌, ◌≤◌, Bool, true, cond, ◌⊎◌, length, Some, Ok, ◌≢◌, slice_index}
use Rattle.rv32i.specs.declared.instructions.Instruction.TheVariants.{Ecall}
use Rattle.segment.specs.Guards.{apart, end}
use Rattle.code_check.specs.Windows.{words_from, Framed}
use Rattle.machine.specs.Executed.{next_of}
use Rattle.domain.specs.Confined.{Domain as Placed, Admitted, InCode, Pointing, Confined}
use Rattle.yard_steps.specs.declared.states.State.{State}
use Rattle.yard_steps.specs.declared.states.State.TheVariants.{Idle, Active, AtHost}
use Rattle.yard_steps.specs.Model.{Entry, Yard, at, gate_at}
use Rattle.yard_steps.specs.Steps.{fetched}

abbrev pub placed : Yard → ℕ → Placed
placed y c = record { words = words_from y.store (at y c).base (at y c).m; base = (at y c).base; m = (at y c).m; segment = (at y c).segment }

abbrev pub at_work : Bool → ℕ → State
at_work p zero = cond p AtHost Active
at_work p (suc n) = Active

abbrev pub InChain : Yard → ℕ → Type 0
InChain y c = (n : ℕ) × (n < length y.chain) × (slice_index y.chain n ≡ c)

abbrev pub Called : Yard → ℕ → Type 0
Called y c = (a : ℕ) × ((at y c).pc ≡ next_of a) × (fetched y.store a ≡ Ok Ecall)

pub record Whole (y : Yard) : Type 0 where
  pub eight : length y.domains ≡ 8
  pub few : y.count ≤ 8
  pub admitted : (c : ℕ) → c < y.count → Admitted (placed y c)
  pub framed : (c : ℕ) → c < y.count → Framed y.store (at y c).base (at y c).m (placed y c).words
  pub fits : (c : ℕ) → c < y.count → end (at y c).segment ≤ y.size
  pub spread : (c k : ℕ) → c < y.count → k < y.count → (c ≢ k) → apart (at y c).segment (at y k).segment ≡ true
  pub confined : (c : ℕ) → c < y.count → Confined (placed y c) (at y c).registers (at y c).pc
  pub ready : (c : ℕ) → c < y.count → (at y c).state ≡ Idle → Pointing (placed y c) (at y c).registers
  pub chained : (n : ℕ) → n < length y.chain → slice_index y.chain n < y.count
  pub works : (n : ℕ) → n < length y.chain → (at y (slice_index y.chain n)).state ≡ at_work y.pending n
  pub distinct : (i j : ℕ) → i < length y.chain → j < length y.chain → slice_index y.chain i ≡ slice_index y.chain j → i ≡ j
  pub calling : (n : ℕ) → n + 1 < length y.chain → Called y (slice_index y.chain (n + 1))
  pub alone : (c : ℕ) → c < y.count → ((at y c).state ≡ Active) ⊎ ((at y c).state ≡ AtHost) → InChain y c
  pub asked : y.pending ≡ true → 0 < length y.chain
  pub entries : (g : ℕ) (e : Entry) → gate_at y g ≡ Some e → (e.domain < y.count) × InCode (placed y e.domain) e.pc
