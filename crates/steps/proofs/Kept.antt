-- What holds of a yard holds after a step.
use Rattle.std.proofs.Common.{◌≡◌, ℕ, zero, suc, ◌<◌, Bool, true, false, eqb, ltb, List, [], ◌∷◌, length, get_or, Some, None, Option, sym, refl, ap, ◌∙◌, subst, arith, length-set, get_or-set_other, get_or-set_same}
use Rattle.std.proofs.lemmas.Bool.{cond_both}
use Rattle.code_check.specs.Windows.{words_from}
use Rattle.machine.specs.declared.stops.Stop.{Stop}
use Rattle.machine.specs.declared.stops.Stop.TheVariants.{Unmapped, NoGate, Forbidden, Busy}
use Rattle.machine.specs.declared.effects.Effect.{Effect}
use Rattle.machine.specs.declared.effects.Effect.TheVariants as effect
use Rattle.machine.specs.Stops.{stop_row}
use Rattle.machine.specs.Registers.{value_of, written}
use Rattle.machine.specs.Executed.{next_of, executed}
use Rattle.domain.specs.Confined.{InCode, Pointing, Confined, Fine}
use Rattle.domain.proofs.Steps.{confined, enters}
use Rattle.steps.specs.declared.states.State.{State}
use Rattle.steps.specs.declared.states.State.TheVariants.{Idle, Active, AtHost, Stopped}
use Rattle.steps.specs.declared.states.Event.TheVariants as event
use Rattle.steps.specs.States.{moved}
use Rattle.steps.specs.Model.{Domain, Entry, Yard, nobody, at, put, gate_at, mapped}
use Rattle.steps.specs.Steps.{After, turned, after, chained, told, rest, behind, halted, hosted, returned_to, handed, entered, is_idle, gated, called, done, performed, stepped}
use Rattle.steps.specs.Whole.{Whole, placed}
use Rattle.steps.specs.Fence.{current, Kept}
use Rattle.steps.proofs.Tables.{put_whole, chain_whole}
use Rattle.steps.proofs.Spares.{spare_pointing, spare_confined}
use Rattle.steps.proofs.Chains.{popped, not_in_rest, stays_lively}
use Rattle.steps.proofs.Stays.{own_word}

-- the next of a chain gets two numbers
told_whole : (y : Yard) → Whole y → (a b : ℕ) → Whole (told y.chain a b y)
told_whole y W a b = by y.chain (λ n l. W.chained n l)
  where
    by : (cs : List ℕ) → ((n : ℕ) → n < length cs → get_or cs n 0 < length y.domains) → Whole (told cs a b y)
    by [] h = W
    by (c ∷ cs) h =
        let lt : c < length y.domains = h 0 (omega arith) in
        let xs = (at y c).registers in
        let one = spare_confined (placed y c) xs 10 a refl (at y c).pc (W.confined c lt) in
        put_whole y W c lt (turned (at y c) (written (written xs 10 a) 11 b) (at y c).pc)
        (record { base = refl; m = refl; segment = refl })
        (record {
          confined = spare_confined (placed y c) (written xs 10 a) 11 b refl (at y c).pc one;
          ready = λ e. spare_pointing (placed y c) (written xs 10 a) 11 b refl (spare_pointing (placed y c) xs 10 a refl (W.ready c lt e));
        })
        (λ n l q e. W.lively n l (ap (λ k. (at y k).state) q ∙ e))

module _ (y : Yard) (W : Whole y) (some : 0 < length y.chain) where
  abbrev c : ℕ
  c = current y

  lt : c < length y.domains
  lt = W.chained 0 some

  awake : (at y c).state ≡ Idle → ⊥
  awake = W.lively 0 some

  -- the current domain with other registers and pc
  turns : (xs : List ℕ) (pc : ℕ) → Confined (placed y c) xs pc → Whole (put y c (turned (at y c) xs pc))
  turns xs pc h =
      put_whole y W c lt (turned (at y c) xs pc) (record { base = refl; m = refl; segment = refl })
      (record { confined = h; ready = λ e. absurd (awake e) }) (λ n l q e. awake e)

  -- it stops, and its caller is told
  halts : (s : Stop) (bs : List ℕ) → Whole (halted s c y bs).yard
  halts s bs =
      let d = after event.Stop (at y c) in
      let W1 = popped y W false in
      let W2 = put_whole (chained y (rest y.chain) false) W1 c lt d (record { base = refl; m = refl; segment = refl })
      (record { confined = W.confined c lt; ready = λ e. absurd (stays_lively event.Stop (at y c).state (λ q. (let z : ◌≡◌ {A = ℕ} 0 1 = cc in omega arith)) awake e) })
      (λ n l q. absurd (not_in_rest y W some n l q))
      in
      told_whole (chained (put y c d) (rest y.chain) false) W2 0xFFFFFFFF (stop_row s).0

  -- it asks the host
  hosts : (bs : List ℕ) → Confined (placed y c) (at y c).registers (next_of (at y c).pc) → Whole (hosted c y bs).yard
  hosts bs h =
      let d = after event.Host (behind c y) in
      let lively : moved (at y c).state event.Host ≡ Idle → ⊥ = stays_lively event.Host (at y c).state (λ q. (let z : ◌≡◌ {A = ℕ} 0 1 = cc in omega arith)) awake in
      let W1 = put_whole y W c lt d (record { base = refl; m = refl; segment = refl }) (record { confined = h; ready = λ e. absurd (lively e) }) (λ n l q e. lively e) in
      chain_whole (put y c d) W1 y.chain true W1.chained W1.lively W1.distinct

  -- it returns
  returns_to : (bs : List ℕ) → Confined (placed y c) (at y c).registers (next_of (at y c).pc) → Pointing (placed y c) (at y c).registers →
      Whole (returned_to (rest y.chain) c y bs).yard
  returns_to bs h p =
      let d = after event.Return (behind c y) in
      let W2 = put_whole (chained y (rest y.chain) false) (popped y W false) c lt d (record { base = refl; m = refl; segment = refl })
      (record { confined = h; ready = λ _. p }) (λ n l q. absurd (not_in_rest y W some n l q))
      in
      by (rest y.chain) W2
    where
      by : (ks : List ℕ) → Whole (chained (put y c (after event.Return (behind c y))) ks false) → Whole (returned_to ks c y bs).yard
      by [] w = w
      by (k ∷ ks) w = told_whole (chained (put y c (after event.Return (behind c y))) (k ∷ ks) false) w _ _

idle_is : (s : State) → is_idle s ≡ true → s ≡ Idle
idle_is Idle e = refl
idle_is Active e = absurd (let z : ◌≡◌ {A = ℕ} 0 1 = cc in omega arith)
idle_is AtHost e = absurd (let z : ◌≡◌ {A = ℕ} 0 1 = cc in omega arith)
idle_is Stopped e = absurd (let z : ◌≡◌ {A = ℕ} 0 1 = cc in omega arith)

active_not_idle : Active ≡ Idle → ⊥
active_not_idle e = let z : ◌≡◌ {A = ℕ} 0 1 = cc in omega arith

-- seven numbers are handed over to a domain whose pointers lie in their blocks
hands : (y : Yard) (k : ℕ) (f xs : List ℕ) (pc a : ℕ) → Confined (placed y k) xs pc → Pointing (placed y k) xs → InCode (placed y k) a → Confined (placed y k) (handed f xs) a
hands y k f xs pc a h b i =
    let d = placed y k in
    let t0 = enters d xs pc a 10 (value_of f 10) h b i refl in
    let x0 = written xs 10 (value_of f 10) in
    let t1 = enters d x0 a a 11 (value_of f 11) t0.0 t0.1 i refl in
    let x1 = written x0 11 (value_of f 11) in
    let t2 = enters d x1 a a 12 (value_of f 12) t1.0 t1.1 i refl in
    let x2 = written x1 12 (value_of f 12) in
    let t3 = enters d x2 a a 13 (value_of f 13) t2.0 t2.1 i refl in
    let x3 = written x2 13 (value_of f 13) in
    let t4 = enters d x3 a a 14 (value_of f 14) t3.0 t3.1 i refl in
    let x4 = written x3 14 (value_of f 14) in
    let t5 = enters d x4 a a 15 (value_of f 15) t4.0 t4.1 i refl in
    let x5 = written x4 15 (value_of f 15) in
    (enters d x5 a a 16 (value_of f 16) t5.0 t5.1 i refl).0

-- a domain that is idle is entered, and put on the chain
pub enters_whole : (y : Yard) (W : Whole y) (k : ℕ) (l : k < length y.domains) (f : List ℕ) (e : Entry) → (at y k).state ≡ Idle → InCode (placed y k) e.pc →
    Whole (chained (put y k (entered f e (at y k))) (k ∷ y.chain) false)
enters_whole y W k l f e idle i =
    let d = entered f e (at y k) in
    let state : d.state ≡ Active = ap (λ s. moved s event.Entered) idle in
    let awake : d.state ≡ Idle → ⊥ = λ q. active_not_idle (sym state ∙ q) in
    let W1 = put_whole y W k l d (record { base = refl; m = refl; segment = refl })
    (record { confined = hands y k f (at y k).registers (at y k).pc e.pc (W.confined k l) (W.ready k l idle) i; ready = λ q. absurd (awake q) }) (λ n m q w. awake w)
    in
    let y1 = put y k d in
    chain_whole y1 W1 (k ∷ y.chain) false (inside W1) (live W1 awake) unique
  where
    inside : Whole (put y k (entered f e (at y k))) → (n : ℕ) → n < length (k ∷ y.chain) → get_or (k ∷ y.chain) n 0 < length (put y k (entered f e (at y k))).domains
    inside V zero h = rw (length-set y.domains k (entered f e (at y k))) l
    inside V (suc n) h = V.chained n (omega arith)

    live : Whole (put y k (entered f e (at y k))) → ((entered f e (at y k)).state ≡ Idle → ⊥) → (n : ℕ) → n < length (k ∷ y.chain) → (at (put y k (entered f e (at y k))) (get_or (k ∷ y.chain) n 0)).state ≡ Idle → ⊥
    live V awake zero h q = awake (sym (ap (λ (x : Domain). x.state) (get_or-set_same y.domains k (entered f e (at y k)) nobody l)) ∙ q)
    live V awake (suc n) h q = V.lively n (omega arith) q

    fresh : (n : ℕ) → n < length y.chain → get_or y.chain n 0 ≡ k → ⊥
    fresh n h q = W.lively n h (ap (λ x. (at y x).state) q ∙ idle)

    unique : (i j : ℕ) → i < length (k ∷ y.chain) → j < length (k ∷ y.chain) → get_or (k ∷ y.chain) i 0 ≡ get_or (k ∷ y.chain) j 0 → i ≡ j
    unique zero zero a b q = refl
    unique zero (suc j) a b q = absurd (fresh j (omega arith) (sym q))
    unique (suc i) zero a b q = absurd (fresh i (omega arith) q)
    unique (suc i) (suc j) a b q = ap suc (W.distinct i j (omega arith) (omega arith) q)

module _ (y : Yard) (W : Whole y) (some : 0 < length y.chain) (A : ℕ → ℕ → Bool) (bs : List ℕ)
    (h : Confined (placed y (current y)) (at y (current y)).registers (next_of (at y (current y)).pc)) (p : Pointing (placed y (current y)) (at y (current y)).registers) where
  -- it calls a gate
  gates_whole : (o : Option Entry) (g : ℕ) → gate_at y g ≡ o → Whole (gated A o g (current y) y bs).yard
  gates_whole None g is = halts y W some (NoGate g) bs
  gates_whole (Some e) g is =
      let c = current y in
      let k = e.domain in
      let t = W.entries g e is in
      cond_both (A c g) _ _ (λ (r : After). Whole r.yard)
      (λ _. cond_both (is_idle (at y k).state) _ _ (λ (r : After). Whole r.yard)
      (λ q.
      let idle = idle_is (at y k).state q in
      let apart : k ≡ c → ⊥ = λ same. W.lively 0 some (ap (λ n. (at y n).state) (sym same) ∙ idle) in
      let y1 = put y c (behind c y) in
      let W1 = turns y W some (at y c).registers (next_of (at y c).pc) h in
      let same : at y1 k ≡ at y k = get_or-set_other y.domains c k (behind c y) nobody apart in
      let l1 : k < length y1.domains = rw (length-set y.domains c (behind c y)) t.0 in
      let i1 : InCode (placed y1 k) e.pc = subst (λ (x : Domain). InCode (record { words = words_from y.store x.base x.m; base = x.base; m = x.m; segment = x.segment }) e.pc) (sym same) t.1 in
      let w = enters_whole y1 W1 k l1 (at y c).registers e (ap (λ (x : Domain). x.state) same ∙ idle) i1 in
      subst (λ (x : Domain). Whole (chained (put y1 k (entered (at y c).registers e x)) (k ∷ y.chain) false)) same w)
      (λ _. halts y W some (Busy g) bs))
      (λ _. halts y W some (Forbidden g) bs)

  calls_whole : Whole (called A (current y) y bs).yard
  calls_whole =
      let g = value_of (at y (current y)).registers 17 in
      cond_both (eqb g 0) _ _ (λ (r : After). Whole r.yard) (λ _. hosts y W some bs h)
      (λ _. cond_both (eqb g 31) _ _ (λ (r : After). Whole r.yard) (λ _. returns_to y W some bs h p)
      (λ _. cond_both (ltb g 31) _ _ (λ (r : After). Whole r.yard) (λ _. gates_whole (gate_at y g) g refl) (λ _. halts y W some (NoGate g) bs)))

does_whole : (y : Yard) (W : Whole y) (some : 0 < length y.chain) (A : ℕ → ℕ → Bool) (bs : List ℕ) (e : Effect) →
    Fine (placed y (current y)) (at y (current y)).registers (at y (current y)).pc e → Whole (done A (current y) e y bs).yard
does_whole y W some A bs (effect.Set rd v) f = turns y W some _ _ f
does_whole y W some A bs (effect.Read op rd a) f =
    cond_both (mapped y.domains a) _ _ (λ (r : After). Whole r.yard) (λ _. turns y W some _ _ (f _)) (λ _. halts y W some (Unmapped a) bs)
does_whole y W some A bs (effect.Write a x) f =
    cond_both (mapped y.domains a) _ _ (λ (r : After). Whole r.yard) (λ _. turns y W some _ _ f.1) (λ _. halts y W some (Unmapped a) bs)
does_whole y W some A bs (effect.Link rd n t) f = turns y W some _ _ f
does_whole y W some A bs (effect.Jump t) f = turns y W some _ _ f
does_whole y W some A bs effect.Next f = turns y W some _ _ f
does_whole y W some A bs effect.Call f = calls_whole y W some A bs f.0 f.1
does_whole y W some A bs (effect.Stop s) f = halts y W some s bs

pub kept : Kept
kept A y bs W some =
    let c = current y in
    let lt = W.chained 0 some in
    let t = confined (placed y c) (at y c).registers (at y c).pc (W.admitted c lt) (W.confined c lt) in
    let w = own_word y W c lt t.0 t.1 in
    let is : stepped A y bs ≡ done A c (executed t.0 (at y c).registers (at y c).pc) y bs = ap (λ f. performed A c f y bs) w in
    subst (λ (r : After). Whole r.yard) (sym is) (does_whole y W some A bs _ t.2)
