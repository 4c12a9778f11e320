-- What holds of a yard between two words. Assumes nothing.
--   placed y c       the domain c as its window and its segment
--   Whole y          the windows were accepted and the segments are sound, apart and inside the memory; every domain is confined;
--                    one that is idle has its pointers in their blocks; the chain is of its domains, none idle and none twice; the
--                    entries of gates lie in their windows
use Rattle.std.specs.Prelude.{◌≡◌, ℕ, ◌<◌, ◌≤◌, true, length, Some, ◌≢◌, slice_index}
use Rattle.segment.specs.Guards.{apart, end}
use Rattle.code_check.specs.Windows.{words_from, Framed}
use Rattle.domain.specs.Confined.{Domain as Placed, Admitted, InCode, Pointing, Confined}
use Rattle.steps.specs.declared.states.State.TheVariants.{Idle}
use Rattle.steps.specs.Model.{Entry, Yard, at, gate_at}

abbrev pub placed : Yard → ℕ → Placed
placed y c = record { words = words_from y.store (at y c).base (at y c).m; base = (at y c).base; m = (at y c).m; segment = (at y c).segment }

pub record Whole (y : Yard) : Type 0 where
  pub few : length y.domains ≤ 8
  pub admitted : (c : ℕ) → c < length y.domains → Admitted (placed y c)
  pub framed : (c : ℕ) → c < length y.domains → Framed y.store (at y c).base (at y c).m (placed y c).words
  pub fits : (c : ℕ) → c < length y.domains → end (at y c).segment ≤ y.size
  pub spread : (c k : ℕ) → c < length y.domains → k < length y.domains → (c ≢ k) → apart (at y c).segment (at y k).segment ≡ true
  pub confined : (c : ℕ) → c < length y.domains → Confined (placed y c) (at y c).registers (at y c).pc
  pub ready : (c : ℕ) → c < length y.domains → (at y c).state ≡ Idle → Pointing (placed y c) (at y c).registers
  pub chained : (n : ℕ) → n < length y.chain → slice_index y.chain n < length y.domains
  pub lively : (n : ℕ) → n < length y.chain → (at y (slice_index y.chain n)).state ≢ Idle
  pub distinct : (i j : ℕ) → i < length y.chain → j < length y.chain → slice_index y.chain i ≡ slice_index y.chain j → i ≡ j
  pub entries : (g : ℕ) (e : Entry) → gate_at y g ≡ Some e → (e.domain < length y.domains) × InCode (placed y e.domain) e.pc
