-- Ways through a step.
use Rattle.std.proofs.Common.{◌≡◌, ℕ, ◌<◌, ◌≤◌, Bool, cond, eqb, ltb, List, length, None, Option, Err, Result, sym, ap, ◌∙◌, ⊎_elim, arith}
use Rattle.std.proofs.lemmas.Bool.{cond-true, cond-false, eq-eqb, ne_eqb, lt-ltb, le-ltb, cases_lt}
use Rattle.std.proofs.lemmas.List.{get_or_past}
use Rattle.machine.specs.Registers.{value_of}
use Rattle.rv32i.specs.declared.instructions.Instruction.{Instruction}
use Rattle.machine.specs.declared.stops.Stop.{Stop}
use Rattle.machine.specs.declared.stops.Stop.TheVariants.{NoGate}
use Rattle.yard_steps.specs.Model.{Entry, Yard, at, current, gate_at}
use Rattle.yard_steps.specs.Steps.{fetched, halted, hosted, gated, called, performed, stepped}

-- a word that cannot be fetched
pub fetch_stops : (A : ℕ → ℕ → Bool) (y : Yard) (bs : List ℕ) (i pc : ℕ) (s : Stop) → i ≡ current y → pc ≡ (at y i).pc → Err s ≡ fetched y.store pc → halted s i y bs ≡ stepped A y bs
fetch_stops A y bs i pc s who where-is what =
    ap (λ n. halted s n y bs) who
    ∙ ap (λ (r : Result Instruction Stop). performed A (current y) r y bs) (what ∙ ap (λ n. fetched y.store n) (where-is ∙ ap (λ n. (at y n).pc) who))

-- ways of an ECALL of the domain c, which has n in x17
module _ (A : ℕ → ℕ → Bool) (c n : ℕ) (y : Yard) (bs : List ℕ) (is : n ≡ value_of (at y c).registers 17) where
  abbrev m : ℕ
  m = value_of (at y c).registers 17

  pub to_host : n ≡ 0 → hosted c y bs ≡ called A c y bs
  to_host e = sym (cond-true (eqb m 0) _ _ (eq-eqb m 0 (sym is ∙ e)))

  -- a number past the gates leads nowhere
  entry : length y.gates ≡ 31 → gated A (gate_at y m) m c y bs ≡ cond (ltb m 31) (gated A (gate_at y m) m c y bs) (halted (NoGate m) c y bs)
  entry long =
      ⊎_elim (λ (h : m < 31). sym (cond-true (ltb m 31) _ _ (lt-ltb m 31 h)))
      (λ (h : 31 ≤ m). ap (λ (o : Option Entry). gated A o m c y bs) (get_or_past y.gates m None (omega arith)) ∙ sym (cond-false (ltb m 31) _ _ (le-ltb m 31 h)))
      (cases_lt m 31)

  pub to_gate : (n ≡ 0 → ⊥) → (n ≡ 31 → ⊥) → length y.gates ≡ 31 → gated A (gate_at y n) n c y bs ≡ called A c y bs
  to_gate host back long =
      ap (λ k. gated A (gate_at y k) k c y bs) is
      ∙ (entry long
      ∙ sym (cond-false (eqb m 0) _ _ (ne_eqb m 0 (λ e. host (is ∙ e))) ∙ cond-false (eqb m 31) _ _ (ne_eqb m 31 (λ e. back (is ∙ e)))))
