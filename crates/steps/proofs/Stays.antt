-- A byte that a step changes lies in the current domain's segment.
use Rattle.std.proofs.Common.{◌≡◌, ℕ, ◌+◌, ◌-◌, ◌*◌, ◌/◌, ◌%◌, ◌<◌, ◌≤◌, min, Bool, true, ◌&&◌, eqb, ltb, ◌⊎◌, List, [], ◌∷◌, length, get_or, Some, None, Ok, Option, sym, refl, ap, ◌∙◌, subst, inl, inr, ⊎_elim, arith}
use Rattle.std.proofs.lemmas.Bool.{cond_both, cases_lt, cases_eq}
use Rattle.std.proofs.lemmas.Bool.Decides.{nat_tests}
use Rattle.rv32i.specs.declared.instructions.Instruction.{Instruction}
use Rattle.rv32i.specs.Decoded.{decoded}
use Rattle.segment.specs.Guards.{Row, Inside, Near, apart}
use Rattle.segment.proofs.Bounds.{whole}
use Rattle.code_check.specs.Rules.{word_at}
use Rattle.code_check.specs.Windows.{counted}
use Rattle.machine.specs.declared.widths.Datum.{Datum}
use Rattle.machine.specs.declared.widths.Datum.TheVariants.{U8, U16, U32}
use Rattle.machine.specs.declared.effects.Effect.{Effect}
use Rattle.machine.specs.declared.effects.Effect.TheVariants as effect
use Rattle.machine.specs.Widths.{bytes_of, width_of}
use Rattle.machine.specs.Laws.{Aligned}
use Rattle.machine.specs.Registers.{value_of}
use Rattle.machine.specs.Executed.{executed}
use Rattle.machine.proofs.Multiples.{executed_aligned}
use Rattle.domain.specs.Confined.{place_of, Fine}
use Rattle.domain.proofs.Places.{quad, place_lt, place_is}
use Rattle.domain.proofs.Steps.{confined}
use Rattle.steps.specs.Model.{Entry, Yard, at, gate_at, mapped}
use Rattle.steps.specs.Steps.{After, found, fetched, rest, is_idle, returned_to, gated, called, done, performed, stepped, put_datum}
use Rattle.steps.specs.Whole.{Whole, placed}
use Rattle.steps.specs.Fence.{current, Stays, Executes}
use Rattle.steps.proofs.Puts.{put_elsewhere, mapped_in}

-- an ECALL leaves the memory
returned_bytes : (ks : List ℕ) (c : ℕ) (y : Yard) (bs : List ℕ) → (returned_to ks c y bs).bytes ≡ bs
returned_bytes [] c y bs = refl
returned_bytes (k ∷ ks) c y bs = refl

gated_bytes : (A : ℕ → ℕ → Bool) (e : Option Entry) (g c : ℕ) (y : Yard) (bs : List ℕ) → (gated A e g c y bs).bytes ≡ bs
gated_bytes A None g c y bs = refl
gated_bytes A (Some e) g c y bs =
    cond_both (A c g) _ _ (λ (a : After). a.bytes ≡ bs) (λ _. cond_both (is_idle (at y e.domain).state) _ _ (λ (a : After). a.bytes ≡ bs) (λ _. refl) (λ _. refl)) (λ _. refl)

called_bytes : (A : ℕ → ℕ → Bool) (c : ℕ) (y : Yard) (bs : List ℕ) → (called A c y bs).bytes ≡ bs
called_bytes A c y bs =
    let g = value_of (at y c).registers 17 in
    cond_both (eqb g 0) _ _ (λ (a : After). a.bytes ≡ bs) (λ _. refl)
    (λ _. cond_both (eqb g 31) _ _ (λ (a : After). a.bytes ≡ bs) (λ _. returned_bytes (rest y.chain) c y bs)
    (λ _. cond_both (ltb g 31) _ _ (λ (a : After). a.bytes ≡ bs) (λ _. gated_bytes A (gate_at y g) g c y bs) (λ _. refl)))

-- the width of an access is 1, 2 or 4
widths : (x : Datum) → (bytes_of (width_of x) ≡ 1) ⊎ ((bytes_of (width_of x) ≡ 2) ⊎ (bytes_of (width_of x) ≡ 4))
widths (U8 b) = inl refl
widths (U16 h) = inr (inl refl)
widths (U32 w) = inr (inr refl)

-- k is one of the bytes of an access, or none
among : (a w k : ℕ) → ((j : ℕ) × (j < w) × (k ≡ a + j)) ⊎ ((j : ℕ) → j < w → k ≡ a + j → ⊥)
among a w k =
    ⊎_elim (λ (h : k < a). inr (λ j lt e. omega (arith, e)))
    (λ (h : a ≤ k). ⊎_elim (λ (t : k < a + w). inl (k - a, omega arith, omega arith)) (λ (t : a + w ≤ k). inr (λ j lt e. omega (arith, e))) (cases_lt k (a + w)))
    (cases_lt k a)

module _ (y : Yard) (W : Whole y) (c : ℕ) (lt : c < length y.domains) where
  -- what is near the current domain's segment, and mapped, is its own
  own : (a : ℕ) → (a < 1048576 → Near (at y c).segment a) → mapped y.domains a ≡ true → Inside (at y c).segment a
  own a near m =
      let t = mapped_in y.domains a m in
      let j = t.0 in
      let top = (W.admitted j t.1).sound.fits in
      let below : a < 1048576 = (let u = t.2.1 in omega arith) in
      ⊎_elim (λ (e : c ≡ j). subst (λ n. Inside (at y n).segment a) (sym e) t.2)
      (λ (n : c ≡ j → ⊥). absurd (between (at y c).segment (at y j).segment (W.spread c j lt t.1 n) a (near below) t.2))
      (cases_eq c j)
    where
      between : (s t : Row) → apart s t ≡ true → (a : ℕ) → Near s a → Inside t a → ⊥
      between s t e a n i = let p = n.0 in let q = n.1 in let u = i.0 in let v = i.1 in grind (arith, nat_tests)

  -- a byte that a store changes
  wrote : (a : ℕ) (x : Datum) (bs : List ℕ) → (a < 1048576 → Near (at y c).segment a) → a % bytes_of (width_of x) ≡ 0 → mapped y.domains a ≡ true →
      (k : ℕ) → (get_or (put_datum bs a x) k 0 ≡ get_or bs k 0 → ⊥) → Inside (at y c).segment k
  wrote a x bs near even m k n =
      let s = (at y c).segment in
      let ok = (W.admitted c lt).sound in
      ⊎_elim
      (λ h. subst (Inside s) (sym h.2) (whole s a ok.large ok.aligned (own a near m) (bytes_of (width_of x)) h.0 (widths x) even h.1))
      (λ h. absurd (n (put_elsewhere bs a x k h)))
      (among a (bytes_of (width_of x)) k)

  still : (A : ℕ → ℕ → Bool) (bs : List ℕ) (e : Effect) → Fine (placed y c) (at y c).registers (at y c).pc e → Aligned e →
      (k : ℕ) → (get_or (done A c e y bs).bytes k 0 ≡ get_or bs k 0 → ⊥) → Inside (at y c).segment k
  still A bs (effect.Set rd v) f g k n = absurd (n refl)
  still A bs (effect.Read op rd a) f g k n =
      absurd (n (ap (λ l. get_or l k 0) (cond_both (mapped y.domains a) _ _ (λ (r : After). r.bytes ≡ bs) (λ _. refl) (λ _. refl))))
  still A bs (effect.Write a x) f g k n =
      cond_both (mapped y.domains a) _ _ (λ (r : After). (get_or r.bytes k 0 ≡ get_or bs k 0 → ⊥) → Inside (at y c).segment k)
      (λ m d. wrote a x bs f.0 g m k d) (λ _ d. absurd (d refl)) n
  still A bs (effect.Link rd v t) f g k n = absurd (n refl)
  still A bs (effect.Jump t) f g k n = absurd (n refl)
  still A bs effect.Next f g k n = absurd (n refl)
  still A bs effect.Call f g k n = absurd (n (ap (λ l. get_or l k 0) (called_bytes A c y bs)))
  still A bs (effect.Stop s) f g k n = absurd (n refl)

  -- the word at the pc is that of the window
  own_place : get_or y.store ((at y c).pc / 4) 0 ≡ get_or (placed y c).words (place_of (placed y c) (at y c).pc) 0
  own_place =
      let d = placed y c in
      let pc = (at y c).pc in
      let ok = W.admitted c lt in
      let h = (W.confined c lt).place in
      let q = quad d ok in
      let is = place_is d ok pc h in
      let here : pc / 4 ≡ d.base / 4 + place_of d pc = omega arith in
      ap (λ n. get_or y.store n 0) here ∙ sym ((W.framed c lt).words (place_of d pc) (place_lt d ok pc h))

  -- so it is what is fetched
  pub own_word : (i : Instruction) → word_at (placed y c).words (place_of (placed y c) (at y c).pc) ≡ Ok i → fetched y.store (at y c).pc ≡ Ok i
  own_word i e =
      let pc = (at y c).pc in
      let h = (W.confined c lt).place in
      let fr = W.framed c lt in
      let low = h.2 in
      let top = h.1 in
      let u = fr.inside in
      let v = fr.counts in
      let test : (eqb (pc % 4) 0 && ltb (pc / 4) (counted y.store)) ≡ true = fetch_test pc (length y.store) low (omega arith) (omega arith) in
      rw test (ap (λ x. found (get_or y.store (pc / 4) 0) x) (ap decoded own_place ∙ e))
    where
      fetch_test : (pc n : ℕ) → pc % 4 ≡ 0 → pc < 4 * n → pc < 65536 → (eqb (pc % 4) 0 && ltb (pc / 4) (min n 16384)) ≡ true
      fetch_test pc n a b d = grind (arith, nat_tests)

pub stays : Stays
stays A y bs W some k n =
    let c = current y in
    let lt = W.chained 0 some in
    let t = confined (placed y c) (at y c).registers (at y c).pc (W.admitted c lt) (W.confined c lt) in
    let w = own_word y W c lt t.0 t.1 in
    let is : stepped A y bs ≡ done A c (executed t.0 (at y c).registers (at y c).pc) y bs = ap (λ f. performed A c f y bs) w in
    still y W c lt A bs _ t.2 (executed_aligned t.0 (at y c).registers (at y c).pc) k (λ e. n (ap (λ (r : After). get_or r.bytes k 0) is ∙ e))

pub executes : Executes
executes y W some =
    let c = current y in
    let lt = W.chained 0 some in
    let t = confined (placed y c) (at y c).registers (at y c).pc (W.admitted c lt) (W.confined c lt) in
    ((W.confined c lt).place, (t.0, ap decoded (own_place y W c lt) ∙ t.1))
