-- What comes of a step: the yard is whole again, the fence holds of the step, and a run that goes on has a domain to go on with.
use Rattle.std.proofs.Common.{◌≡◌, ℕ, ◌<◌, ◌≤◌, Bool, true, false, eqb, ltb, List, [], ◌∷◌, length, get_or, Some, None, Ok, Option, sym, refl, ap, ◌∙◌, subst, inl, inr, ⊎_elim, arith, get_or-set_other, get_or-set_same}
use Rattle.std.proofs.lemmas.List.{set_past}
use Rattle.std.proofs.lemmas.Bool.{cond_both, cases_eq, cases_lt}
use Rattle.rv32i.specs.declared.instructions.Instruction.TheVariants.{Ecall}
use Rattle.machine.specs.declared.stops.Stop.{Stop}
use Rattle.machine.specs.declared.stops.Stop.TheVariants.{Fetch, Illegal, Target, Misaligned, Unmapped, NoGate, Forbidden, Busy, Break}
use Rattle.machine.specs.declared.effects.Effect.{Effect}
use Rattle.machine.specs.declared.effects.Effect.TheVariants as effect
use Rattle.machine.specs.Stops.{stop_row}
use Rattle.machine.specs.Laws.{Aligned}
use Rattle.machine.specs.Registers.{value_of}
use Rattle.machine.specs.Executed.{next_of, executed}
use Rattle.machine.proofs.Multiples.{executed_aligned}
use Rattle.domain.specs.Confined.{InCode, Pointing, Confined, Possible, Fine}
use Rattle.domain.proofs.Steps.{confined}
use Rattle.yard_steps.specs.declared.states.State.{State}
use Rattle.yard_steps.specs.declared.states.State.TheVariants.{Idle, Active, AtHost, Stopped}
use Rattle.yard_steps.specs.declared.states.Event.TheVariants as event
use Rattle.yard_steps.specs.declared.reports.Reason.TheVariants as reason
use Rattle.yard_steps.specs.declared.reports.Ending.{Ending}
use Rattle.yard_steps.specs.States.{moved, is_idle}
use Rattle.yard_steps.specs.Model.{Domain, Entry, Yard, nobody, at, put, chained, current, gate_at, mapped}
use Rattle.yard_steps.specs.Steps.{After, went, turned, after, fetched, put_datum, told, rest, behind, halted, hosted, arguments, entered, returned_to, gated, called, done, performed, stepped}
use Rattle.yard_steps.specs.Whole.{Whole, placed}
use Rattle.yard_steps.specs.Fence.{Stays, Crosses, Faultless, moment_of}
use Rattle.yard_steps.proofs.Tables.{standing}
use Rattle.yard_steps.proofs.Chains.{stopped_no_work, idle_no_work, active, rest_at, head_whole, turn_whole, leave_whole, told_whole, enter_whole}
use Rattle.yard_steps.proofs.Puts.{put_length}
use Rattle.yard_steps.proofs.Words.{own_word, call_word}
use Rattle.yard_steps.proofs.Stays.{wrote}

pub record Outcome (A : ℕ → ℕ → Bool) (y : Yard) (bs : List ℕ) (a : After) : Type 0 where
  pub whole : Whole a.yard
  pub stays : Stays (moment_of y bs a)
  pub crosses : Crosses A (moment_of y bs a)
  pub faultless : Faultless (moment_of y bs a)
  pub goes : a.ended ≡ None → (0 < length a.yard.chain) × (a.yard.pending ≡ false)

-- endings

possible_number : (s : Stop) → Possible s → 3 < (stop_row s).0
possible_number (Fetch pc) p = absurd p
possible_number (Illegal w) p = absurd p
possible_number (Target t) p = absurd p
possible_number (Misaligned a) p = omega arith
possible_number (Unmapped a) p = omega arith
possible_number (NoGate g) p = omega arith
possible_number (Forbidden g) p = omega arith
possible_number (Busy g) p = omega arith
possible_number Break p = omega arith

pub some_same : {X : Type 0} (a b : X) → ◌≡◌ {A = Option X} (Some a) (Some b) → a ≡ b
some_same a b e = cc

none_some : (a : Ending) → ◌≡◌ {A = Option Ending} None (Some a) → ⊥
none_some a e = let z : ◌≡◌ {A = ℕ} 0 1 = cc in omega arith

-- an ending that is no stop
sane : (x : Ending) → (x.reason ≡ reason.Stopped → ⊥) → (r : Ending) → ◌≡◌ {A = Option Ending} (Some x) (Some r) → r.reason ≡ reason.Stopped → 3 < r.first
sane x n r e q = absurd (n (ap (λ (z : Ending). z.reason) (some_same x r e) ∙ q))

host_not : reason.Host ≡ reason.Stopped → ⊥
host_not e = let z : ◌≡◌ {A = ℕ} 0 1 = cc in omega arith

finished_not : reason.Finished ≡ reason.Stopped → ⊥
finished_not e = let z : ◌≡◌ {A = ℕ} 0 1 = cc in omega arith

idle_is : (s : State) → is_idle s ≡ true → s ≡ Idle
idle_is Idle e = refl
idle_is Active e = absurd (let z : ◌≡◌ {A = ℕ} 0 1 = cc in omega arith)
idle_is AtHost e = absurd (let z : ◌≡◌ {A = ℕ} 0 1 = cc in omega arith)
idle_is Stopped e = absurd (let z : ◌≡◌ {A = ℕ} 0 1 = cc in omega arith)

-- what is told changes no chain and no pc
told_chain : (cs : List ℕ) (a b : ℕ) (y : Yard) → (told cs a b y).chain ≡ y.chain
told_chain [] a b y = refl
told_chain (c ∷ cs) a b y = refl

put_pc : (y : Yard) (c k : ℕ) (d : Domain) → d.pc ≡ (at y c).pc → (at (put y c d) k).pc ≡ (at y k).pc
put_pc y c k d e =
    ⊎_elim
    (λ (q : k ≡ c). ⊎_elim
    (λ (l : c < length y.domains). ap (λ n. (at (put y c d) n).pc) q ∙ (ap (λ (x : Domain). x.pc) (get_or-set_same y.domains c d nobody l) ∙ (e ∙ ap (λ n. (at y n).pc) (sym q))))
    (λ (l : length y.domains ≤ c). ap (λ ds. (get_or ds k nobody).pc) (set_past y.domains c d l))
    (cases_lt c (length y.domains)))
    (λ (n : k ≡ c → ⊥). ap (λ (x : Domain). x.pc) (get_or-set_other y.domains c k d nobody n))
    (cases_eq k c)

told_pc : (cs : List ℕ) (a b : ℕ) (y : Yard) (k : ℕ) → (at (told cs a b y) k).pc ≡ (at y k).pc
told_pc [] a b y k = refl
told_pc (c ∷ cs) a b y k = put_pc y c k _ refl

module _ (A : ℕ → ℕ → Bool) (y : Yard) (W : Whole y) (some : 0 < length y.chain) (calm : y.pending ≡ false) (bs : List ℕ) where
  abbrev c : ℕ
  c = current y

  lt : c < y.count
  lt = W.chained 0 some

  inside : c < length y.domains
  inside = let e = W.eight in let f = W.few in let l = lt in omega arith

  working : (at y c).state ≡ Active
  working = active y W calm 0 some

  -- the memory is as it was
  quiet : (z : Yard) (o : Option Ending) → Stays (moment_of y bs (record { yard = z; bytes = bs; ended = o }))
  quiet z o = record { size = refl; own = λ k n. absurd (n refl) }

  -- the current domain goes on, with other registers, another pc and other bytes
  on_it : (xs : List ℕ) (pc : ℕ) (ms : List ℕ) → Confined (placed y c) xs pc → Stays (moment_of y bs (went (put y c (turned (at y c) xs pc)) ms)) →
      Outcome A y bs (went (put y c (turned (at y c) xs pc)) ms)
  on_it xs pc ms h m = record {
    whole = turn_whole y W some c refl xs pc h;
    stays = m;
    crosses = λ l n. absurd (n refl);
    faultless = λ e q. absurd (none_some e q);
    goes = λ _. (some, calm);
  }

  turns : (xs : List ℕ) (pc : ℕ) → Confined (placed y c) xs pc → Outcome A y bs (went (put y c (turned (at y c) xs pc)) bs)
  turns xs pc h = on_it xs pc bs h (quiet _ None)

  -- back to the caller, where it had left off
  back : (d : Domain) (a b : ℕ) (o : Option Ending) → Crosses A (moment_of y bs (record { yard = told (rest y.chain) a b (chained (put y c d) (rest y.chain) false); bytes = bs; ended = o }))
  back d a b o l n =
      let cs = rest y.chain in
      let k = get_or y.chain 1 0 in
      let ch = told_chain cs a b (chained (put y c d) cs false) in
      let l1 : 0 < length cs = subst (λ (x : List ℕ). 0 < length x) ch l in
      let t = rest_at y.chain 0 l1 in
      let cur : current (told cs a b (chained (put y c d) cs false)) ≡ k = ap (λ (x : List ℕ). get_or x 0 0) ch ∙ t.1 in
      let apart : k ≡ c → ⊥ = λ q. (let z = W.distinct 1 0 t.0 some q in omega arith) in
      inr (cur, told_pc cs a b (chained (put y c d) cs false) k ∙ ap (λ (x : Domain). x.pc) (get_or-set_other y.domains c k d nobody apart), W.calling 0 t.0)

  -- it stops, and its caller is told
  halts : (s : Stop) → Possible s → Outcome A y bs (halted s c y bs)
  halts s p =
      let d = after event.Stop (at y c) in
      let is : moved (at y c).state event.Stop ≡ Stopped = ap (λ x. moved x event.Stop) working in
      let w = leave_whole y W some c refl calm (at y c).registers (at y c).pc (moved (at y c).state event.Stop) (W.confined c lt)
      (λ e. absurd (let z : ◌≡◌ {A = ℕ} 0 1 = cc in omega arith)) (stopped_no_work _ is)
      in
      record {
        whole = told_whole (chained (put y c d) (rest y.chain) false) w 0xFFFFFFFF (stop_row s).0;
        stays = quiet _ _;
        crosses = back d 0xFFFFFFFF (stop_row s).0 None;
        faultless = λ r e q. subst (λ n. 3 < n) (ap (λ (x : Ending). x.first) (some_same _ r e)) (possible_number s p);
        goes = λ e. absurd (none_some _ (sym e));
      }

  -- the word is an ECALL
  module _ (h : Confined (placed y c) (at y c).registers (next_of (at y c).pc)) (b : Pointing (placed y c) (at y c).registers) (w : fetched y.store (at y c).pc ≡ Ok Ecall) where
    -- it asks the host
    hosts : Outcome A y bs (hosted c y bs)
    hosts = record {
      whole = head_whole y W some c refl (at y c).registers (next_of (at y c).pc) (moved (at y c).state event.Host) true h (ap (λ x. moved x event.Host) working);
      stays = quiet _ _;
      crosses = λ l n. absurd (n refl);
      faultless = sane _ host_not;
      goes = λ e. absurd (none_some _ (sym e));
    }

    -- it returns
    left : Whole (chained (put y c (after event.Return (behind c y))) (rest y.chain) false)
    left =
        leave_whole y W some c refl calm (at y c).registers (next_of (at y c).pc) (moved (at y c).state event.Return) h (λ _. b)
        (idle_no_work _ (ap (λ x. moved x event.Return) working))

    returns : (ks : List ℕ) → rest y.chain ≡ ks → Outcome A y bs (returned_to ks c y bs)
    returns [] e = record {
      whole = subst (λ zs. Whole (chained (put y c (after event.Return (behind c y))) zs false)) e left;
      stays = quiet _ _;
      crosses = λ l n. absurd (omega arith);
      faultless = sane _ finished_not;
      goes = λ e. absurd (none_some _ (sym e));
    }
    returns (k ∷ ks) e =
        let d = after event.Return (behind c y) in
        let x10 = value_of (at y c).registers 10 in
        let x11 = value_of (at y c).registers 11 in
        record {
          whole = told_whole (chained (put y c d) (k ∷ ks) false) (subst (λ zs. Whole (chained (put y c d) zs false)) e left) x10 x11;
          stays = quiet _ _;
          crosses = subst (λ (zs : List ℕ). Crosses A (moment_of y bs (went (told zs x10 x11 (chained (put y c d) zs false)) bs))) e (back d x10 x11 None);
          faultless = λ r q. absurd (none_some r q);
          goes = λ _. (omega arith, refl);
        }

    -- it enters a gate whose domain is idle
    enters_gate : (g : ℕ) (e : Entry) → gate_at y g ≡ Some e → A c g ≡ true → (at y e.domain).state ≡ Idle →
        Outcome A y bs (went (chained (put (put y c (behind c y)) e.domain (entered (arguments (at y c).registers) e (at y e.domain))) (e.domain ∷ y.chain) false) bs)
    enters_gate g e is allowed idle =
        let k = e.domain in
        let vs = arguments (at y c).registers in
        let t = W.entries g e is in
        let apart : k ≡ c → ⊥ = λ same. idle_no_work (at y k).state idle (inl (ap (λ n. (at y n).state) same ∙ working)) in
        let y1 = put y c (behind c y) in
        let w1 = turn_whole y W some c refl (at y c).registers (next_of (at y c).pc) h in
        let same : at y1 k ≡ at y k = get_or-set_other y.domains c k (behind c y) nobody apart in
        let i1 : InCode (placed y1 k) e.pc = subst (λ (x : Domain). InCode (standing y.store x) e.pc) (sym same) t.1 in
        let pc1 : (at y1 c).pc ≡ next_of (at y c).pc = ap (λ (x : Domain). x.pc) (get_or-set_same y.domains c (behind c y) nobody inside) in
        let w2 = enter_whole y1 w1 calm k t.0 (ap (λ (x : Domain). x.state) same ∙ idle) (λ _. ((at y c).pc, pc1, w)) vs e i1 in
        let deep : k < length y1.domains = (let q = w1.eight in let f = W.few in let l = t.0 in omega arith) in
        record {
          whole = subst (λ (x : Domain). Whole (chained (put y1 k (entered vs e x)) (k ∷ y.chain) false)) same w2;
          stays = quiet _ _;
          crosses = λ l n. inl (g, e, is, allowed, refl, ap (λ (x : Domain). x.pc) (get_or-set_same y1.domains k (entered vs e (at y k)) nobody deep));
          faultless = λ r q. absurd (none_some r q);
          goes = λ _. (omega arith, refl);
        }

    gates : (o : Option Entry) (g : ℕ) → gate_at y g ≡ o → Outcome A y bs (gated A o g c y bs)
    gates None g is = halts (NoGate g) tt
    gates (Some e) g is =
        cond_both (A c g) _ _ (Outcome A y bs)
        (λ allowed. cond_both (is_idle (at y e.domain).state) _ _ (Outcome A y bs) (λ idle. enters_gate g e is allowed (idle_is _ idle)) (λ _. halts (Busy g) tt))
        (λ _. halts (Forbidden g) tt)

    calls : Outcome A y bs (called A c y bs)
    calls =
        let g = value_of (at y c).registers 17 in
        cond_both (eqb g 0) _ _ (Outcome A y bs) (λ _. hosts)
        (λ _. cond_both (eqb g 31) _ _ (Outcome A y bs) (λ _. returns (rest y.chain) refl)
        (λ _. cond_both (ltb g 31) _ _ (Outcome A y bs) (λ _. gates (gate_at y g) g refl) (λ _. halts (NoGate g) tt)))

  does : (e : Effect) → Fine (placed y c) (at y c).registers (at y c).pc e → Aligned e → (e ≡ effect.Call → fetched y.store (at y c).pc ≡ Ok Ecall) → Outcome A y bs (done A c e y bs)
  does (effect.Set rd v) f g w = turns _ _ f
  does (effect.Read op rd a) f g w = cond_both (mapped y a) _ _ (Outcome A y bs) (λ _. turns _ _ (f _)) (λ _. halts (Unmapped a) tt)
  does (effect.Write a x) f g w =
      cond_both (mapped y a) _ _ (Outcome A y bs)
      (λ m. on_it (at y c).registers (next_of (at y c).pc) (put_datum bs a x) f.1 (record { size = put_length bs a x; own = wrote y W c lt a x bs f.0 g m }))
      (λ _. halts (Unmapped a) tt)
  does (effect.Link rd n t) f g w = turns _ _ f
  does (effect.Jump t) f g w = turns _ _ f
  does effect.Next f g w = turns _ _ f
  does effect.Call f g w = calls f.0 f.1 (w refl)
  does (effect.Stop s) f g w = halts s f

  pub outcome : Outcome A y bs (stepped A y bs)
  outcome =
      let xs = (at y c).registers in
      let pc = (at y c).pc in
      let t = confined (placed y c) xs pc (W.admitted c lt) (W.confined c lt) in
      let w = own_word y W c lt t.0 t.1 in
      let is : stepped A y bs ≡ done A c (executed t.0 xs pc) y bs = ap (λ f. performed A c f y bs) w in
      subst (Outcome A y bs) (sym is)
      (does (executed t.0 xs pc) t.2 (executed_aligned t.0 xs pc) (λ e. w ∙ ap (λ i. Ok i) (call_word t.0 xs pc e)))
