-- The chain as it stays, shrinks and grows.
use Rattle.std.proofs.Common.{◌≡◌, ℕ, zero, suc, ◌+◌, ◌<◌, Bool, true, false, List, [], ◌∷◌, length, get_or, sym, refl, ap, ◌∙◌, subst, inl, inr, add-one, arith}
use Rattle.code_check.specs.Registers.{dedicated}
use Rattle.machine.specs.Registers.{written}
use Rattle.domain.specs.Confined.{InCode, Pointing, Confined}
use Rattle.domain.proofs.Steps.{enters}
use Rattle.yard_steps.specs.declared.states.State.{State}
use Rattle.yard_steps.specs.declared.states.State.TheVariants.{Idle, Active, Stopped}
use Rattle.yard_steps.specs.declared.states.Event.TheVariants as event
use Rattle.yard_steps.specs.States.{moved}
use Rattle.yard_steps.specs.Model.{Entry, Yard, at, put, chained, current}
use Rattle.yard_steps.specs.Steps.{rest, turned, told, handed, entered}
use Rattle.yard_steps.specs.Whole.{Whole, placed, at_work, Called}
use Rattle.yard_steps.proofs.Tables.{Working, On, put_whole}
use Rattle.yard_steps.proofs.Spares.{spare_confined}

-- states

pub idle_no_work : (s : State) → s ≡ Idle → Working s → ⊥
idle_no_work s e (inl a) = let z : ◌≡◌ {A = ℕ} 0 1 = cc in omega arith
idle_no_work s e (inr a) = let z : ◌≡◌ {A = ℕ} 0 1 = cc in omega arith

pub stopped_no_work : (s : State) → s ≡ Stopped → Working s → ⊥
stopped_no_work s e (inl a) = let z : ◌≡◌ {A = ℕ} 0 1 = cc in omega arith
stopped_no_work s e (inr a) = let z : ◌≡◌ {A = ℕ} 0 1 = cc in omega arith

at_work-Working : (p : Bool) (n : ℕ) → Working (at_work p n)
at_work-Working true zero = inr refl
at_work-Working false zero = inl refl
at_work-Working p (suc n) = inl refl

-- only of the first of a chain does it matter whether a call is pending
further : (p q : Bool) (n : ℕ) → (n ≡ 0 → ⊥) → at_work p n ≡ at_work q n
further p q zero n = absurd (n refl)
further p q (suc k) n = refl

calm_work : (n : ℕ) → at_work false n ≡ Active
calm_work zero = refl
calm_work (suc n) = refl

-- while no call is pending, all of the chain are active
pub active : (y : Yard) → Whole y → y.pending ≡ false → (n : ℕ) → n < length y.chain → (at y (get_or y.chain n 0)).state ≡ Active
active y W e n l = W.works n l ∙ (ap (λ p. at_work p n) e ∙ calm_work n)

-- lists

pub rest_at : (cs : List ℕ) (n : ℕ) → n < length (rest cs) → (n + 1 < length cs) × (get_or (rest cs) n 0 ≡ get_or cs (n + 1) 0)
rest_at [] n l = absurd (omega arith)
rest_at (c ∷ cs) n l = (omega arith, sym (ap (λ k. get_or (c ∷ cs) k 0) (add-one n)))

-- what is on a chain is its first, or on the rest
on_rest : (cs : List ℕ) (k : ℕ) → (k ≡ get_or cs 0 0 → ⊥) → On cs k → On (rest cs) k
on_rest [] k n o = absurd (let l = o.1 in omega arith)
on_rest (c ∷ cs) k n o = by o.0 o.1 o.2
  where
    by : (i : ℕ) → i < length (c ∷ cs) → get_or (c ∷ cs) i 0 ≡ k → On cs k
    by zero l e = absurd (n (sym e))
    by (suc i) l e = (i, omega arith, e)

-- the first of the chain
module _ (y : Yard) (W : Whole y) (some : 0 < length y.chain) (c : ℕ) (is : current y ≡ c) where
  pub first_in : c < y.count
  first_in = subst (λ k. k < y.count) is (W.chained 0 some)

  -- where c stands on the chain
  first : (n : ℕ) → n < length y.chain → get_or y.chain n 0 ≡ c → n ≡ 0
  first n l e = W.distinct n 0 l some (e ∙ sym is)

  no_caller : (n : ℕ) → n + 1 < length y.chain → get_or y.chain (n + 1) 0 ≡ c → ⊥
  no_caller n l e = let z = first (n + 1) l e in omega arith

  -- it stays on the chain, and its state is that of the first where a call is pending or not
  pub head_whole : (xs : List ℕ) (pc : ℕ) (s : State) (p : Bool) → Confined (placed y c) xs pc → s ≡ at_work p 0 →
      Whole (chained (put y c (record { registers = xs; pc = pc; state = s; base = (at y c).base; m = (at y c).m; segment = (at y c).segment })) y.chain p)
  head_whole xs pc s p h w =
      put_whole y W c first_in xs pc s y.chain p (record {
        confined = h;
        ready = λ e. absurd (idle_no_work (at_work p 0) (sym w ∙ e) (at_work-Working p 0));
        chained = W.chained;
        own_works = λ n l e. w ∙ ap (at_work p) (sym (first n l e));
        works = λ n l e. W.works n l ∙ further y.pending p n (λ (z : n ≡ 0). e (ap (λ k. get_or y.chain k 0) z ∙ is));
        distinct = W.distinct;
        own_calling = λ n l e. absurd (no_caller n l e);
        calling = λ n l _. W.calling n l;
        own_alone = λ _. (0, some, is);
        alone = λ k l _. W.alone k l;
        asked = λ _. some;
      })

  -- it gets other registers and another pc
  pub turn_whole : (xs : List ℕ) (pc : ℕ) → Confined (placed y c) xs pc → Whole (put y c (turned (at y c) xs pc))
  turn_whole xs pc h = head_whole xs pc (at y c).state y.pending h (ap (λ k. (at y k).state) (sym is) ∙ W.works 0 some)

  -- it leaves the chain
  pub leave_whole : y.pending ≡ false → (xs : List ℕ) (pc : ℕ) (s : State) → Confined (placed y c) xs pc → (s ≡ Idle → Pointing (placed y c) xs) → (Working s → ⊥) →
      Whole (chained (put y c (record { registers = xs; pc = pc; state = s; base = (at y c).base; m = (at y c).m; segment = (at y c).segment })) (rest y.chain) false)
  leave_whole calm xs pc s h ready w =
      let cs = rest y.chain in
      let gone : (n : ℕ) → n < length cs → get_or cs n 0 ≡ c → ⊥ = λ n l e. let t = rest_at y.chain n l in no_caller n t.0 (sym t.1 ∙ e) in
      put_whole y W c first_in xs pc s cs false (record {
        confined = h;
        ready = ready;
        chained = λ n l. let t = rest_at y.chain n l in subst (λ k. k < y.count) (sym t.1) (W.chained (n + 1) t.0);
        own_works = λ n l e. absurd (gone n l e);
        works = λ n l _. let t = rest_at y.chain n l in ap (λ k. (at y k).state) t.1 ∙ (active y W calm (n + 1) t.0 ∙ sym (calm_work n));
        distinct = λ i j l m e.
            let t = rest_at y.chain i l in
            let u = rest_at y.chain j m in
            let q = W.distinct (i + 1) (j + 1) t.0 u.0 (sym t.1 ∙ e ∙ u.1) in omega arith;
        own_calling = λ n l e. absurd (gone (n + 1) l e);
        calling = λ n l _. let t = rest_at y.chain (n + 1) l in subst (Called y) (sym t.1) (W.calling (n + 1) t.0);
        own_alone = λ k. absurd (w k);
        alone = λ k l n o. on_rest y.chain k (λ e. n (e ∙ is)) (W.alone k l o);
        asked = λ e. absurd (let z : ◌≡◌ {A = ℕ} 0 1 = cc in omega arith);
      })

-- the next of a chain gets two numbers
pub told_whole : (y : Yard) → Whole y → (a b : ℕ) → Whole (told y.chain a b y)
told_whole y W a b = by y.chain refl
  where
    by : (cs : List ℕ) → y.chain ≡ cs → Whole (told cs a b y)
    by [] e = W
    by (c ∷ cs) e =
        let some : 0 < length y.chain = rw e (omega arith) in
        let is : current y ≡ c = ap (λ l. get_or l 0 0) e in
        let xs = (at y c).registers in
        let one = spare_confined (placed y c) xs 10 a refl (at y c).pc (W.confined c (first_in y W some c is)) in
        turn_whole y W some c is (written (written xs 10 a) 11 b) (at y c).pc (spare_confined (placed y c) (written xs 10 a) 11 b refl (at y c).pc one)

-- a domain that is idle; the current one, if any, has called
module _ (y : Yard) (W : Whole y) (calm : y.pending ≡ false) (c : ℕ) (lt : c < y.count) (idle : (at y c).state ≡ Idle) (calls : 0 < length y.chain → Called y (current y)) where
  fresh : (n : ℕ) → n < length y.chain → get_or y.chain n 0 ≡ c → ⊥
  fresh n l e = idle_no_work (at y c).state idle (inl (ap (λ k. (at y k).state) (sym e) ∙ active y W calm n l))

  unique : (i j : ℕ) → i < length (c ∷ y.chain) → j < length (c ∷ y.chain) → get_or (c ∷ y.chain) i 0 ≡ get_or (c ∷ y.chain) j 0 → i ≡ j
  unique zero zero l m e = refl
  unique zero (suc j) l m e = absurd (fresh j (omega arith) (sym e))
  unique (suc i) zero l m e = absurd (fresh i (omega arith) e)
  unique (suc i) (suc j) l m e = ap suc (W.distinct i j (omega arith) (omega arith) e)

  inside : (n : ℕ) → n < length (c ∷ y.chain) → get_or (c ∷ y.chain) n 0 < y.count
  inside zero l = lt
  inside (suc n) l = W.chained n (omega arith)

  awake : (n : ℕ) → n < length (c ∷ y.chain) → (get_or (c ∷ y.chain) n 0 ≡ c → ⊥) → (at y (get_or (c ∷ y.chain) n 0)).state ≡ at_work false n
  awake zero l e = absurd (e refl)
  awake (suc n) l e = active y W calm n (omega arith)

  called_by : (n : ℕ) → n < length y.chain → Called y (get_or y.chain n 0)
  called_by zero l = calls l
  called_by (suc n) l = subst (λ k. Called y (get_or y.chain k 0)) (add-one n) (W.calling n (rw (add-one n) l))

  next_of : (n : ℕ) → get_or (c ∷ y.chain) (n + 1) 0 ≡ get_or y.chain n 0
  next_of n = ap (λ k. get_or (c ∷ y.chain) k 0) (add-one n)

  -- it gets on the chain
  pub join_whole : (xs : List ℕ) (pc : ℕ) (s : State) → Confined (placed y c) xs pc → s ≡ Active →
      Whole (chained (put y c (record { registers = xs; pc = pc; state = s; base = (at y c).base; m = (at y c).m; segment = (at y c).segment })) (c ∷ y.chain) false)
  join_whole xs pc s h w =
      put_whole y W c lt xs pc s (c ∷ y.chain) false (record {
        confined = h;
        ready = λ e. absurd (idle_no_work s e (inl w));
        chained = inside;
        own_works = λ n l e. w ∙ sym (calm_work n);
        works = awake;
        distinct = unique;
        own_calling = λ n l e. absurd (fresh n (omega arith) (sym (next_of n) ∙ e));
        calling = λ n l e. subst (Called y) (sym (next_of n)) (called_by n (omega arith));
        own_alone = λ _. (0, omega arith, refl);
        alone = λ k l n o. let t = W.alone k l o in (suc t.0, (let m = t.1 in omega arith), t.2);
        asked = λ e. absurd (let z : ◌≡◌ {A = ℕ} 0 1 = cc in omega arith);
      })

  -- it is entered: seven numbers are handed over, one after another
  pub enter_whole : (vs : List ℕ) (e : Entry) → InCode (placed y c) e.pc → Whole (chained (put y c (entered vs e (at y c))) (c ∷ y.chain) false)
  enter_whole vs e i =
      let d = placed y c in
      let a = e.pc in
      let more : (pc : ℕ) (xs : List ℕ) (rd : ℕ) (v : ℕ) → Confined d xs pc × Pointing d xs → dedicated rd ≡ false → Confined d (written xs rd v) a × Pointing d (written xs rd v) = λ pc xs rd v h n. enters d xs pc a rd v h.0 h.1 i n in
      let r0 = more (at y c).pc (at y c).registers 10 (get_or vs 0 0) (W.confined c lt, W.ready c lt idle) refl in
      let r1 = more a _ 11 (get_or vs 1 0) r0 refl in
      let r2 = more a _ 12 (get_or vs 2 0) r1 refl in
      let r3 = more a _ 13 (get_or vs 3 0) r2 refl in
      let r4 = more a _ 14 (get_or vs 4 0) r3 refl in
      let r5 = more a _ 15 (get_or vs 5 0) r4 refl in
      let r6 = more a _ 16 (get_or vs 6 0) r5 refl in
      join_whole (handed vs (at y c).registers) a (moved (at y c).state event.Entered) r6.0 (ap (λ s. moved s event.Entered) idle)
