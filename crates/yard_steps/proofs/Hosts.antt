-- What the host asks of a yard leaves it whole: a new yard, admit (Admits.antt), open, call, reply and cut.
use Rattle.std.proofs.Common.{◌≡◌, ℕ, ◌+◌, ◌%◌, ◌^◌, ◌<◌, ◌≤◌, true, false, not, eqb, ltb, leb, List, [], ◌∷◌, map, length, get_or, set, replicate, is_some, Some, None, Option, Result, sym, refl, ap, ◌∙◌, subst, inr, ⊎_elim, arith, get_or-set_other, get_or-set_same}
use Rattle.std.proofs.lemmas.List.{set_past, get_or-replicate, get_or_past, length-replicate, length-map, get_or-map, nil_from_length}
use Rattle.std.proofs.lemmas.Bool.{cond_both, cases_eq, cases_lt, and_parts, eqb-true, ltb-true, leb-false, not-false, both_ways}
use Rattle.machine.specs.Registers.{written}
use Rattle.domain.specs.Confined.{InCode, Pointing, Confined}
use Rattle.domain.proofs.Places.{quad}
use Rattle.yard_steps.specs.declared.states.State.{State}
use Rattle.yard_steps.specs.declared.states.State.TheVariants.{Idle, Active, AtHost, Stopped}
use Rattle.yard_steps.specs.declared.states.Event.TheVariants as event
use Rattle.yard_steps.specs.States.{moved, is_active, is_stopped}
use Rattle.yard_steps.specs.Model.{Domain, Entry, Yard, nobody, new_yard, at, put, chained, current, gate_at, some_active}
use Rattle.yard_steps.specs.Steps.{after, entered}
use Rattle.yard_steps.specs.Calls.{gate_fits, with_entry, offset_fits, opened, through_gate, called_from, replied, cut_off}
use Rattle.yard_steps.specs.Whole.{Whole, placed, at_work}
use Rattle.yard_steps.proofs.Below.{none_below}
use Rattle.yard_steps.proofs.Tables.{standing, Working, remade}
use Rattle.yard_steps.proofs.Chains.{idle_no_work, stopped_no_work, active, head_whole, enter_whole}
use Rattle.yard_steps.proofs.Spares.{spare_confined}
use Rattle.yard_steps.proofs.Outcomes.{some_same}
pub use Rattle.yard_steps.proofs.Admits.{admitted_whole}

-- a new yard

no_gate : (n g : ℕ) (e : Entry) → get_or (replicate n None) g None ≡ Some e → ⊥
no_gate n g e h =
    let none : ◌≡◌ {A = Option Entry} (get_or (replicate n None) g None) None =
    ⊎_elim (λ (l : g < n). get_or-replicate n g None None l) (λ (l : n ≤ g). get_or_past (replicate n None) g None (omega (arith, length-replicate {A = Option Entry} n None))) (cases_lt g n) in
    let z : ◌≡◌ {A = ℕ} 0 1 = cc in omega arith

pub new_whole : (ws : List ℕ) (n : ℕ) → Whole (new_yard ws n)
new_whole ws n = record {
  eight = refl;
  few = omega arith;
  admitted = λ c l. absurd (omega arith);
  framed = λ c l. absurd (omega arith);
  fits = λ c l. absurd (omega arith);
  spread = λ c k l m. absurd (omega arith);
  confined = λ c l. absurd (omega arith);
  ready = λ c l. absurd (omega arith);
  chained = λ i l. absurd (omega arith);
  works = λ i l. absurd (omega arith);
  distinct = λ i j l m. absurd (omega arith);
  calling = λ i l. absurd (omega arith);
  alone = λ c l. absurd (omega arith);
  asked = λ e. absurd (both_ways false refl e);
  entries = λ g e h. absurd (no_gate 31 g e h);
}

-- open

module _ (y : Yard) (W : Whole y) (g : ℕ) (e : Entry) (l : e.domain < y.count) (i : InCode (placed y e.domain) e.pc) where
  entry_whole : Whole (with_entry y g e)
  entry_whole = record {
    eight = W.eight;
    few = W.few;
    admitted = W.admitted;
    framed = W.framed;
    fits = W.fits;
    spread = W.spread;
    confined = W.confined;
    ready = W.ready;
    chained = W.chained;
    works = W.works;
    distinct = W.distinct;
    calling = W.calling;
    alone = W.alone;
    asked = W.asked;
    entries = λ k x h.
        ⊎_elim
        (λ (q : k ≡ g). ⊎_elim
        (λ (m : g < length y.gates).
        let same : e ≡ x = some_same e x (sym (get_or-set_same y.gates g (Some e) None m) ∙ (ap (λ n. get_or (set y.gates g (Some e)) n None) (sym q) ∙ h)) in
        subst (λ (v : Entry). (v.domain < y.count) × InCode (placed y v.domain) v.pc) same (l, i))
        (λ (m : length y.gates ≤ g). W.entries k x (ap (λ gs. get_or gs k None) (sym (set_past y.gates g (Some e) m)) ∙ h))
        (cases_lt g (length y.gates)))
        (λ (n : k ≡ g → ⊥). W.entries k x (sym (get_or-set_other y.gates g k (Some e) None n) ∙ h))
        (cases_eq k g);
  }

pub opened_whole : (y : Yard) (g d o : ℕ) → Whole y → Whole (opened y g d o).0
opened_whole y g d o W =
    let P : Yard × Result (Unit {0}) (List ℕ) → Type 0 = λ r. Whole r.0 in
    cond_both (not (gate_fits g)) _ _ P (λ _. W)
    (λ _. cond_both (is_some (gate_at y g)) _ _ P (λ _. W)
    (λ _. cond_both (leb y.count d) _ _ P (λ _. W)
    (λ there. cond_both (not (offset_fits (at y d) o)) _ _ P (λ _. W)
    (λ fits.
    let l = leb-false y.count d there in
    let t = and_parts (eqb (o % 4) 0) (ltb o (2 ^ (at y d).m)) (not-false (offset_fits (at y d) o) fits) in
    let even = eqb-true (o % 4) 0 t.0 in
    let below = ltb-true o (2 ^ (at y d).m) t.1 in
    let start = quad (placed y d) (W.admitted d l) in
    entry_whole y W g (record { domain = d; pc = (at y d).base + o }) l (omega arith, omega arith, omega arith)))))

-- call

-- while no call is pending, nobody is at host
no_host : (y : Yard) → Whole y → y.pending ≡ false → (c : ℕ) → c < y.count → (at y c).state ≡ AtHost → ⊥
no_host y W calm c l e =
    let t = W.alone c l (inr e) in
    let busy : (at y c).state ≡ Active = ap (λ k. (at y k).state) (sym t.2) ∙ active y W calm t.0 t.1 in
    let z : ◌≡◌ {A = ℕ} 0 1 = cc in omega arith

not_active : (s : State) → is_active s ≡ false → s ≡ Active → ⊥
not_active s n e = both_ways (is_active s) n (ap is_active e)

-- where nobody is active either, the chain is empty
no_chain : (y : Yard) → Whole y → y.pending ≡ false → some_active y ≡ false → y.chain ≡ []
no_chain y W calm none =
    nil_from_length y.chain
    (⊎_elim
    (λ (l : 0 < length y.chain).
    absurd (not_active _ (none_below y.count (λ c. is_active (at y c).state) none (current y) (W.chained 0 l)) (active y W calm 0 l)))
    (λ (l : length y.chain ≤ 0). omega arith)
    (cases_lt 0 (length y.chain)))

-- a domain that is neither active nor at host nor stopped is idle
idle_left : (s : State) → is_active s ≡ false → (s ≡ AtHost → ⊥) → is_stopped s ≡ false → s ≡ Idle
idle_left Idle a h t = refl
idle_left Active a h t = absurd (both_ways true a refl)
idle_left AtHost a h t = absurd (h refl)
idle_left Stopped a h t = absurd (both_ways true t refl)

pub called_whole : (y : Yard) (g : ℕ) (vs : List ℕ) → Whole y → Whole (called_from y g vs).0
called_whole y g vs W = cond_both (not (gate_fits g)) _ _ (λ (r : Yard × Result (Unit {0}) (List ℕ)). Whole r.0) (λ _. W) (λ _. by (gate_at y g) refl)
  where
    by : (o : Option Entry) → gate_at y g ≡ o → Whole (through_gate o vs y).0
    by None is = W
    by (Some e) is =
        let P : Yard × Result (Unit {0}) (List ℕ) → Type 0 = λ r. Whole r.0 in
        let k = e.domain in
        let t = W.entries g e is in
        cond_both y.pending _ _ P (λ _. W)
        (λ calm. cond_both (some_active y) _ _ P (λ _. W)
        (λ none. cond_both (is_stopped (at y k).state) _ _ P (λ _. W)
        (λ stands.
        let empty = no_chain y W calm none in
        let idle = idle_left (at y k).state (none_below y.count (λ c. is_active (at y c).state) none k t.0) (no_host y W calm k t.0) stands in
        let w = enter_whole y W calm k t.0 idle (λ l. absurd (let z = ap length empty in omega arith)) vs e t.1 in
        subst (λ cs. Whole (chained (put y k (entered vs e (at y k))) (k ∷ cs) false)) empty w)))

-- reply

pub replied_whole : (y : Yard) (v : ℕ) → Whole y → Whole (replied y v).0
replied_whole y v W =
    let c = current y in
    cond_both (not y.pending) _ _ (λ (r : Yard × Result (Unit {0}) (List ℕ)). Whole r.0) (λ _. W)
    (λ e.
    let waits = not-false y.pending e in
    let some = W.asked waits in
    let hosted : (at y c).state ≡ AtHost = W.works 0 some ∙ ap (λ p. at_work p 0) waits in
    head_whole y W some c refl (written (at y c).registers 10 v) (at y c).pc (moved (at y c).state event.Reply) false
    (spare_confined (placed y c) (at y c).registers 10 v refl (at y c).pc (W.confined c (W.chained 0 some))) (ap (λ s. moved s event.Reply) hosted))

-- cut

cut_idle : (s : State) → moved s event.Cut ≡ Idle → s ≡ Idle
cut_idle Idle e = refl
cut_idle Active e = absurd (let z : ◌≡◌ {A = ℕ} 0 1 = cc in omega arith)
cut_idle AtHost e = absurd (let z : ◌≡◌ {A = ℕ} 0 1 = cc in omega arith)
cut_idle Stopped e = absurd (let z : ◌≡◌ {A = ℕ} 0 1 = cc in omega arith)

cut_works : (s : State) → (s ≡ AtHost → ⊥) → Working (moved s event.Cut) → ⊥
cut_works Idle h w = idle_no_work Idle refl w
cut_works Active h w = stopped_no_work Stopped refl w
cut_works AtHost h w = h refl
cut_works Stopped h w = stopped_no_work Stopped refl w

cuts : (y : Yard) → Whole y → y.pending ≡ false → Whole (record { store = y.store; size = y.size; domains = map (after event.Cut) y.domains; count = y.count; gates = y.gates; chain = []; pending = false })
cuts y W calm =
    let ds = map (after event.Cut) y.domains in
    let is : (k : ℕ) → k < y.count → get_or ds k nobody ≡ after event.Cut (at y k) =
    λ k l. get_or-map (after event.Cut) y.domains k nobody nobody (let e = W.eight in let f = W.few in omega arith) in
    remade y W ds [] false (length-map y.domains (after event.Cut) ∙ W.eight)
    (λ k l. ap (standing y.store) (is k l))
    (λ k l. subst (λ (x : Domain). Confined (placed y k) x.registers x.pc) (sym (is k l)) (W.confined k l))
    (λ k l. subst (λ (x : Domain). x.state ≡ Idle → Pointing (placed y k) x.registers) (sym (is k l)) (λ e. W.ready k l (cut_idle _ e)))
    (record {
      chained = λ n l. absurd (omega arith);
      works = λ n l. absurd (omega arith);
      distinct = λ i j l. absurd (omega arith);
      calling = λ n l. absurd (omega arith);
      alone = λ k l w. absurd (cut_works (at y k).state (no_host y W calm k l) (subst (λ (x : Domain). Working x.state) (is k l) w));
      asked = λ e. absurd (both_ways false refl e);
    })

pub cut_whole : (y : Yard) → Whole y → Whole (cut_off y).0
cut_whole y W =
    let P : Yard × Result (Unit {0}) (List ℕ) → Type 0 = λ r. Whole r.0 in
    cond_both y.pending _ _ P (λ _. W) (λ calm. cond_both (not (some_active y)) _ _ P (λ _. W) (λ _. cuts y W calm))
