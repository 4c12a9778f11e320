-- A yard with another domain is whole.
use Rattle.std.proofs.Common.{◌≡◌, ℕ, ◌+◌, ◌%◌, ◌^◌, ◌<◌, ◌≤◌, min, Bool, true, false, cond, not, eqb, ltb, leb, List, length, Ok, Err, Result, sym, refl, ap, ◌∙◌, subst, ⊎_elim, arith, length-set, get_or-set_other, get_or-set_same}
use Rattle.std.proofs.lemmas.Bool.{cases_eq, and_parts, eqb-true, leb-true, ltb-true, not-false, or_cases, or_left, or_right}
use Rattle.segment.specs.Guards.{Row, Sound, apart, end}
use Rattle.segment.specs.Rows.{made, bits_fit as segment_bits_fit, placed as segment_placed}
use Rattle.code_check.specs.Windows.{bits_fit, placed as window_placed, words_from, windowed, Framed}
use Rattle.code_check.specs.Verdicts.{and_then, checked}
use Rattle.code_check.specs.Laws.{Safe}
use Rattle.code_check.proofs.Meanings.{gives}
use Rattle.domain.specs.Confined.{Admitted, InCode, Pointing, Confined, started}
use Rattle.domain.proofs.Starts.{starts}
use Rattle.yard_steps.specs.declared.states.State.TheVariants.{Idle}
use Rattle.yard_steps.specs.Model.{Domain, Yard, nobody, at}
use Rattle.yard_steps.specs.Calls.{near, fresh, admission, with_domain, settled, admitted}
use Rattle.yard_steps.specs.Whole.{Whole}
use Rattle.yard_steps.proofs.Below.{none_below}
use Rattle.yard_steps.proofs.Tables.{standing, Behind, Working, On}
use Rattle.yard_steps.proofs.Chains.{idle_no_work}

-- what an Ok came by
then_ok : {X Z : Type 0} (o : Result X (List ℕ)) (f : X → Result Z (List ℕ)) (z : Z) → and_then o f ≡ Ok z → (x : X) × (o ≡ Ok x) × (f x ≡ Ok z)
then_ok (Ok x) f z e = (x, refl, e)
then_ok (Err r) f z e = absurd (let q : ◌≡◌ {A = ℕ} 0 1 = cc in omega arith)

if_ok : {Z : Type 0} (b : Bool) (o : Result Z (List ℕ)) (r : List ℕ) (z : Z) → cond b o (Err r) ≡ Ok z → (b ≡ true) × (o ≡ Ok z)
if_ok true o r z e = (refl, e)
if_ok false o r z e = absurd (let q : ◌≡◌ {A = ℕ} 0 1 = cc in omega arith)

unless_ok : {Z : Type 0} (b : Bool) (o : Result Z (List ℕ)) (r : List ℕ) (z : Z) → cond b (Err r) o ≡ Ok z → (b ≡ false) × (o ≡ Ok z)
unless_ok false o r z e = (refl, e)
unless_ok true o r z e = absurd (let q : ◌≡◌ {A = ℕ} 0 1 = cc in omega arith)

same_ok : {Z : Type 0} (x z : Z) → ◌≡◌ {A = Result Z (List ℕ)} (Ok x) (Ok z) → x ≡ z
same_ok x z e = cc

-- a segment that is made is sound, and inside the memory
made_sound : (d k n : ℕ) (s : Row) → made d k n ≡ Ok s → Sound s × (end s ≤ n)
made_sound d k n s e =
    let t = if_ok (segment_bits_fit k) _ _ s e in
    let u = if_ok (segment_placed d k n) _ _ s t.1 in
    let v = and_parts (leb 10 k) (leb k 16) t.0 in
    let w = and_parts (eqb (d % 2 ^ k) 0) (leb (d + 2 ^ k) (min n 1048576)) u.0 in
    let top = leb-true (d + 2 ^ k) (min n 1048576) w.1 in
    subst (λ (r : Row). Sound r × (end r ≤ n)) (same_ok _ s u.1)
    (record { large = leb-true 10 k v.0; small = leb-true k 16 v.1; aligned = eqb-true (d % 2 ^ k) 0 w.0; fits = omega arith }, omega arith)

-- the words of a window that was accepted
window_is : (ws : List ℕ) (b m : ℕ) (us : List ℕ) → windowed ws b m ≡ Ok us → us ≡ words_from ws b m
window_is ws b m us e =
    let t = if_ok (bits_fit m) _ _ us e in
    let u = if_ok (window_placed ws b m) _ _ us t.1 in
    sym (same_ok _ us u.1)

accepted : (ws : List ℕ) (b m : ℕ) → checked ws b m ≡ Ok tt → Safe ws b m (words_from ws b m)
accepted ws b m e = let t = gives ws b m (checked ws b m) refl e in subst (Safe ws b m) (window_is ws b m t.0 t.1.window) t.1

-- what is known of a domain that is to be admitted
record Admissible (y : Yard) (x : Domain) : Type 0 where
  room : y.count < 8
  framed : Framed y.store x.base x.m (words_from y.store x.base x.m)
  admitted : Admitted (standing y.store x)
  fits : end x.segment ≤ y.size
  far : (c : ℕ) → c < y.count → apart x.segment (at y c).segment ≡ true
  confined : Confined (standing y.store x) x.registers x.pc
  pointing : Pointing (standing y.store x) x.registers
  idle : x.state ≡ Idle

admissible : (y : Yard) (xs : List ℕ) (b m d k : ℕ) (x : Domain) → length xs ≡ 32 → admission y xs b m d k ≡ Ok x → Admissible y x
admissible y xs b m d k x long e =
    let t0 = if_ok (ltb y.count 8) _ _ x e in
    let t1 = then_ok (windowed y.store b m) _ x t0.1 in
    let t2 = then_ok (made d k y.size) _ x t1.2 in
    let s = t2.0 in
    let t3 = unless_ok (near y s) _ _ x t2.2 in
    let t4 = then_ok (checked y.store b m) _ x t3.1 in
    let t5 = then_ok (started xs b m s) _ x t4.2 in
    let rs = t5.0 in
    let new = fresh rs b m s in
    let sound = made_sound d k y.size s t2.1 in
    let safe = accepted y.store b m t4.1 in
    let fr = safe.framed in
    let ok : Admitted (standing y.store new) = record {
      keeps = safe.keeps;
      low = fr.low;
      high = fr.high;
      whole = fr.whole;
      aligned = fr.aligned;
      counts = fr.counts;
      sound = sound.0;
    }
    in
    let begun = starts (standing y.store new) xs rs ok long t5.1 in
    subst (Admissible y) (same_ok new x t5.2)
    (record {
      room = ltb-true y.count 8 t0.0;
      framed = fr;
      admitted = ok;
      fits = sound.1;
      far = λ c l. not-false (apart s (at y c).segment) (none_below y.count (λ i. not (apart s (at y i).segment)) t3.0 c l);
      confined = begun.0;
      pointing = begun.1;
      idle = refl;
    })

apart_sym : (s t : Row) → apart s t ≡ true → apart t s ≡ true
apart_sym s t e =
    let a = leb (end s + 2048) t.base in
    let b = leb (end t + 2048) s.base in
    ⊎_elim (λ h. or_right b a h) (λ h. or_left b a h) (or_cases a b e)

module _ (y : Yard) (W : Whole y) (x : Domain) (a : Admissible y x) where
  others : (k : ℕ) → k < y.count → at (with_domain y x) k ≡ at y k
  others k l = get_or-set_other y.domains y.count k x nobody (λ e. omega (arith, e))

  -- a fact of each domain, from that of the new one and those of the others
  each : (P : ℕ → Domain → Type 0) → P y.count x → ((k : ℕ) → k < y.count → P k (at y k)) → (k : ℕ) → k < y.count + 1 → P k (at (with_domain y x) k)
  each P mine theirs k l =
      let room : y.count < length y.domains = (let r = a.room in let e = W.eight in omega arith) in
      ⊎_elim
      (λ (e : k ≡ y.count). subst (λ n. P n (at (with_domain y x) n)) (sym e) (subst (P y.count) (sym (get_or-set_same y.domains y.count x nobody room)) mine))
      (λ (n : k ≡ y.count → ⊥). let m : k < y.count = omega (arith, n) in subst (P k) (sym (others k m)) (theirs k m))
      (cases_eq k y.count)

  with_whole : Whole (with_domain y x)
  with_whole =
      let ws = y.store in
      let z = with_domain y x in
      record {
        eight = length-set y.domains y.count x ∙ W.eight;
        few = (let r = a.room in omega arith);
        admitted = each (λ j v. Admitted (standing ws v)) a.admitted W.admitted;
        framed = each (λ j v. Framed ws v.base v.m (words_from ws v.base v.m)) a.framed W.framed;
        fits = each (λ j v. end v.segment ≤ y.size) a.fits W.fits;
        spread = λ i j l m.
            each (λ k v. (k ≡ j → ⊥) → apart v.segment (at z j).segment ≡ true)
            (each (λ k v. (y.count ≡ k → ⊥) → apart x.segment v.segment ≡ true) (λ n. absurd (n refl)) (λ k o _. a.far k o) j m)
            (λ i o. each (λ k v. (i ≡ k → ⊥) → apart (at y i).segment v.segment ≡ true) (λ _. apart_sym x.segment (at y i).segment (a.far i o)) (λ k q. W.spread i k o q) j m)
            i l;
        confined = each (λ j v. Confined (standing ws v) v.registers v.pc) a.confined W.confined;
        ready = each (λ j v. v.state ≡ Idle → Pointing (standing ws v) v.registers) (λ _. a.pointing) W.ready;
        chained = λ n l. let h = W.chained n l in omega arith;
        works = λ n l. ap (λ (v : Domain). v.state) (others _ (W.chained n l)) ∙ W.works n l;
        distinct = W.distinct;
        calling = λ n l. subst (λ (v : Domain). Behind ws v.pc) (sym (others _ (W.chained (n + 1) l))) (W.calling n l);
        alone = each (λ j v. Working v.state → On y.chain j) (λ w. absurd (idle_no_work _ a.idle w)) W.alone;
        asked = W.asked;
        entries = λ g e h.
            let t = W.entries g e h in
            let l = t.0 in
            (omega arith, subst (λ (v : Domain). InCode (standing ws v) e.pc) (sym (others e.domain t.0)) t.1);
      }

pub admitted_whole : (y : Yard) (xs : List ℕ) (b m d k : ℕ) → Whole y → length xs ≡ 32 → Whole (admitted y xs b m d k).0
admitted_whole y xs b m d k W long = by (admission y xs b m d k) refl
  where
    by : (r : Result Domain (List ℕ)) → admission y xs b m d k ≡ r → Whole (settled y r).0
    by (Ok x) e = with_whole y W x (admissible y xs b m d k x long e)
    by (Err q) e = W
