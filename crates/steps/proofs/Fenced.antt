-- No step faults, and control crosses only where it may.
use Rattle.std.proofs.Common.{◌≡◌, ℕ, ◌<◌, ◌≤◌, Bool, true, false, eqb, ltb, ◌⊎◌, List, [], ◌∷◌, length, get_or, set, Some, None, Option, sym, refl, ap, ◌∙◌, subst, inl, inr, ⊎_elim, arith, length-set, get_or-set_other, get_or-set_same}
use Rattle.std.proofs.lemmas.List.{set_past}
use Rattle.std.proofs.lemmas.Bool.{cond_both, cases_eq, cases_lt}
use Rattle.machine.specs.declared.stops.Stop.{Stop}
use Rattle.machine.specs.declared.stops.Stop.TheVariants.{Fetch, Illegal, Target, Misaligned, Unmapped, NoGate, Forbidden, Busy, Break}
use Rattle.machine.specs.declared.effects.Effect.{Effect}
use Rattle.machine.specs.declared.effects.Effect.TheVariants as effect
use Rattle.machine.specs.Stops.{stop_row}
use Rattle.machine.specs.Registers.{value_of}
use Rattle.machine.specs.Executed.{executed}
use Rattle.domain.specs.Confined.{Possible, Fine}
use Rattle.domain.proofs.Steps.{confined}
use Rattle.steps.specs.declared.reports.Reason.TheVariants as reason
use Rattle.steps.specs.Model.{Domain, Entry, Yard, nobody, at, put, gate_at, mapped}
use Rattle.steps.specs.declared.states.Event.TheVariants as event
use Rattle.steps.specs.Steps.{Ending, After, after, chained, told, rest, behind, halted, returned_to, entered, is_idle, gated, called, done, performed, stepped}
use Rattle.steps.specs.Whole.{Whole, placed}
use Rattle.steps.specs.Fence.{current, Faultless, Crosses}
use Rattle.steps.proofs.Chains.{rest_at}
use Rattle.steps.proofs.Stays.{own_word}

-- an ending that is no fault
abbrev Sane : After → Type 0
Sane a = (r : Ending) → a.ended ≡ Some r → r.reason ≡ reason.Stopped → 3 < r.first

possible_number : (s : Stop) → Possible s → 3 < (stop_row s).0
possible_number (Fetch pc) p = absurd p
possible_number (Illegal w) p = absurd p
possible_number (Target t) p = absurd p
possible_number (Misaligned a) p = omega arith
possible_number (Unmapped a) p = omega arith
possible_number (NoGate g) p = omega arith
possible_number (Forbidden g) p = omega arith
possible_number (Busy g) p = omega arith
possible_number Break p = omega arith

some_same : (a b : Ending) → ◌≡◌ {A = Option Ending} (Some a) (Some b) → a ≡ b
some_same a b e = cc

none_some : (a : Ending) → ◌≡◌ {A = Option Ending} None (Some a) → ⊥
none_some a e = let z : ◌≡◌ {A = ℕ} 0 1 = cc in omega arith

sane_halted : (s : Stop) (c : ℕ) (y : Yard) (bs : List ℕ) → Possible s → Sane (halted s c y bs)
sane_halted s c y bs p r e q = subst (λ n. 3 < n) (ap (λ (x : Ending). x.first) (some_same _ r e)) (possible_number s p)

sane_ended : (x : Ending) → (x.reason ≡ reason.Stopped → ⊥) → (r : Ending) → ◌≡◌ {A = Option Ending} (Some x) (Some r) → r.reason ≡ reason.Stopped → 3 < r.first
sane_ended x n r e q = absurd (n (ap (λ (z : Ending). z.reason) (some_same x r e) ∙ q))

host_not : reason.Host ≡ reason.Stopped → ⊥
host_not e = let z : ◌≡◌ {A = ℕ} 0 1 = cc in omega arith

finished_not : reason.Finished ≡ reason.Stopped → ⊥
finished_not e = let z : ◌≡◌ {A = ℕ} 0 1 = cc in omega arith

sane_returned : (ks : List ℕ) (c : ℕ) (y : Yard) (bs : List ℕ) → Sane (returned_to ks c y bs)
sane_returned [] c y bs = sane_ended _ finished_not
sane_returned (k ∷ ks) c y bs = λ r e. absurd (none_some r e)

sane_gated : (A : ℕ → ℕ → Bool) (o : Option Entry) (g c : ℕ) (y : Yard) (bs : List ℕ) → Sane (gated A o g c y bs)
sane_gated A None g c y bs = sane_halted (NoGate g) c y bs tt
sane_gated A (Some e) g c y bs =
    cond_both (A c g) _ _ Sane (λ _. cond_both (is_idle (at y e.domain).state) _ _ Sane (λ _ r q. absurd (none_some r q)) (λ _. sane_halted (Busy g) c y bs tt)) (λ _. sane_halted (Forbidden g) c y bs tt)

sane_called : (A : ℕ → ℕ → Bool) (c : ℕ) (y : Yard) (bs : List ℕ) → Sane (called A c y bs)
sane_called A c y bs =
    let g = value_of (at y c).registers 17 in
    cond_both (eqb g 0) _ _ Sane (λ _. sane_ended _ host_not)
    (λ _. cond_both (eqb g 31) _ _ Sane (λ _. sane_returned (rest y.chain) c y bs)
    (λ _. cond_both (ltb g 31) _ _ Sane (λ _. sane_gated A (gate_at y g) g c y bs) (λ _. sane_halted (NoGate g) c y bs tt)))

sane_done : (y : Yard) (c : ℕ) (A : ℕ → ℕ → Bool) (bs : List ℕ) (e : Effect) → Fine (placed y c) (at y c).registers (at y c).pc e → Sane (done A c e y bs)
sane_done y c A bs (effect.Set rd v) f = λ r q. absurd (none_some r q)
sane_done y c A bs (effect.Read op rd a) f = cond_both (mapped y.domains a) _ _ Sane (λ _ r q. absurd (none_some r q)) (λ _. sane_halted (Unmapped a) c y bs tt)
sane_done y c A bs (effect.Write a x) f = cond_both (mapped y.domains a) _ _ Sane (λ _ r q. absurd (none_some r q)) (λ _. sane_halted (Unmapped a) c y bs tt)
sane_done y c A bs (effect.Link rd n t) f = λ r q. absurd (none_some r q)
sane_done y c A bs (effect.Jump t) f = λ r q. absurd (none_some r q)
sane_done y c A bs effect.Next f = λ r q. absurd (none_some r q)
sane_done y c A bs effect.Call f = sane_called A c y bs
sane_done y c A bs (effect.Stop s) f = sane_halted s c y bs f

pub faultless : Faultless
faultless A y bs e W some =
    let c = current y in
    let lt = W.chained 0 some in
    let t = confined (placed y c) (at y c).registers (at y c).pc (W.admitted c lt) (W.confined c lt) in
    let is : stepped A y bs ≡ done A c (executed t.0 (at y c).registers (at y c).pc) y bs = ap (λ f. performed A c f y bs) (own_word y W c lt t.0 t.1) in
    subst Sane (sym is) (sane_done y c A bs _ t.2) e

-- what is told changes no chain and no pc
told_chain : (cs : List ℕ) (a b : ℕ) (y : Yard) → (told cs a b y).chain ≡ y.chain
told_chain [] a b y = refl
told_chain (c ∷ cs) a b y = refl

put_pc : (y : Yard) (c k : ℕ) (d : Domain) → d.pc ≡ (at y c).pc → (at (put y c d) k).pc ≡ (at y k).pc
put_pc y c k d e =
    ⊎_elim
    (λ (q : k ≡ c). ⊎_elim
    (λ (l : c < length y.domains). ap (λ n. (at (put y c d) n).pc) q ∙ (ap (λ (x : Domain). x.pc) (get_or-set_same y.domains c d nobody l) ∙ (e ∙ ap (λ n. (at y n).pc) (sym q))))
    (λ (l : length y.domains ≤ c). ap (λ ds. (get_or ds k nobody).pc) (set_past y.domains c d l))
    (cases_lt c (length y.domains)))
    (λ (n : k ≡ c → ⊥). ap (λ (x : Domain). x.pc) (get_or-set_other y.domains c k d nobody n))
    (cases_eq k c)

told_pc : (cs : List ℕ) (a b : ℕ) (y : Yard) (k : ℕ) → (at (told cs a b y) k).pc ≡ (at y k).pc
told_pc [] a b y k = refl
told_pc (c ∷ cs) a b y k = put_pc y c k _ refl

module _ (A : ℕ → ℕ → Bool) (y : Yard) (W : Whole y) (some : 0 < length y.chain) (bs : List ℕ) where
  abbrev Way : After → Type 0
  Way a = 0 < length a.yard.chain → (current a.yard ≡ current y → ⊥) →
      ((g : ℕ) × (e : Entry) × (gate_at y g ≡ Some e) × (A (current y) g ≡ true) × (current a.yard ≡ e.domain) × ((at a.yard e.domain).pc ≡ e.pc))
      ⊎ ((current a.yard ≡ get_or y.chain 1 0) × ((at a.yard (get_or y.chain 1 0)).pc ≡ (at y (get_or y.chain 1 0)).pc))

  -- back to the caller, where it had left off
  back : (d : Domain) (a b : ℕ) → (o : Option Ending) (m : List ℕ) → Way (record { yard = told (rest y.chain) a b (chained (put y (current y) d) (rest y.chain) false); bytes = m; ended = o })
  back d a b o m l n =
      let c = current y in
      let cs = rest y.chain in
      let ch = told_chain cs a b (chained (put y c d) cs false) in
      let l1 : 0 < length cs = subst (λ (x : List ℕ). 0 < length x) ch l in
      let t = rest_at y.chain 0 l1 in
      let cur : current (told cs a b (chained (put y c d) cs false)) ≡ get_or y.chain 1 0 = ap (λ (x : List ℕ). get_or x 0 0) ch ∙ t.1 in
      let apart : get_or y.chain 1 0 ≡ c → ⊥ = λ q. (let z = W.distinct 1 0 t.0 some q in omega arith) in
      inr (cur, told_pc cs a b (chained (put y c d) cs false) (get_or y.chain 1 0) ∙ ap (λ (x : Domain). x.pc) (get_or-set_other y.domains c (get_or y.chain 1 0) d nobody apart))

  way_halted : (s : Stop) → Way (halted s (current y) y bs)
  way_halted s = back (after event.Stop (at y (current y))) 0xFFFFFFFF (stop_row s).0 None bs

  way_returned : (ks : List ℕ) → rest y.chain ≡ ks → Way (returned_to ks (current y) y bs)
  way_returned [] e = λ l n. absurd (omega arith)
  way_returned (k ∷ ks) e =
      let c = current y in
      let d = after event.Return (behind c y) in
      let a = value_of (at y c).registers 10 in
      let b = value_of (at y c).registers 11 in
      subst (λ (zs : List ℕ). Way (record { yard = told zs a b (chained (put y c d) zs false); bytes = bs; ended = None })) e (back d a b None bs)

  way_gated : (o : Option Entry) (g : ℕ) → gate_at y g ≡ o → Way (gated A o g (current y) y bs)
  way_gated None g is = way_halted (NoGate g)
  way_gated (Some e) g is =
      let c = current y in
      let k = e.domain in
      let d = entered (at y c).registers e (at y k) in
      let lt : k < length (set y.domains c (behind c y)) = rw (length-set y.domains c (behind c y)) (W.entries g e is).0 in
      cond_both (A c g) _ _ Way
      (λ allowed. cond_both (is_idle (at y k).state) _ _ Way
      (λ _ l n. inl (g, e, is, allowed, refl, ap (λ (x : Domain). x.pc) (get_or-set_same (set y.domains c (behind c y)) k d nobody lt)))
      (λ _. way_halted (Busy g)))
      (λ _. way_halted (Forbidden g))

  way_called : Way (called A (current y) y bs)
  way_called =
      let g = value_of (at y (current y)).registers 17 in
      cond_both (eqb g 0) _ _ Way (λ _ l n. absurd (n refl))
      (λ _. cond_both (eqb g 31) _ _ Way (λ _. way_returned (rest y.chain) refl)
      (λ _. cond_both (ltb g 31) _ _ Way (λ _. way_gated (gate_at y g) g refl) (λ _. way_halted (NoGate g))))

  way_done : (e : Effect) → Way (done A (current y) e y bs)
  way_done (effect.Set rd v) = λ l n. absurd (n refl)
  way_done (effect.Read op rd a) = cond_both (mapped y.domains a) _ _ Way (λ _ l n. absurd (n refl)) (λ _. way_halted (Unmapped a))
  way_done (effect.Write a x) = cond_both (mapped y.domains a) _ _ Way (λ _ l n. absurd (n refl)) (λ _. way_halted (Unmapped a))
  way_done (effect.Link rd v t) = λ l n. absurd (n refl)
  way_done (effect.Jump t) = λ l n. absurd (n refl)
  way_done effect.Next = λ l n. absurd (n refl)
  way_done effect.Call = way_called
  way_done (effect.Stop s) = way_halted s

pub crosses : Crosses
crosses A y bs W some =
    let c = current y in
    let lt = W.chained 0 some in
    let t = confined (placed y c) (at y c).registers (at y c).pc (W.admitted c lt) (W.confined c lt) in
    let is : stepped A y bs ≡ done A c (executed t.0 (at y c).registers (at y c).pc) y bs = ap (λ f. performed A c f y bs) (own_word y W c lt t.0 t.1) in
    subst (Way A y W some bs) (sym is) (way_done A y W some bs _)
