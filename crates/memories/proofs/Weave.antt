-- Four lanes as one memory.
use Rattle.std.proofs.Common.{◌≡◌, ℕ, zero, suc, ◌+◌, ◌*◌, ◌/◌, ◌%◌, ◌<◌, ◌≤◌, true, false, cond, eqb, List, ◌++◌, map, length, get_or, take, drop, set, Some, None, sym, refl, ap, ◌∙◌, ⊎_elim, arith, length-set, take-append-drop, length-take, get_or-set_other, get_or-take, get_or-set_same, drop-set-lt}
use Rattle.std.specs.List.{range_with_len}
use Rattle.std.proofs.lemmas.List.FromFn.{length-map-range_with_len, get_or-map-range_with_len, fill_by_all}
use Rattle.std.proofs.lemmas.Bool.{cases_eq, eq-eqb, ne_eqb, cond_below}
use Rattle.memory.specs.Bytes.{byte_at, byte_put}
use Rattle.memories.specs.Layout.{lane, depth, woven, lane_loans, lane_put, column}

pub woven_length : (p q r s : List ℕ) → length (woven p q r s) ≡ 4 * depth p q r s
unfolding woven
woven_length p q r s =
    length-map-range_with_len (λ a. get_or (lane p q r s (a % 4)) (a / 4) 0) 0 (4 * depth p q r s)

pub woven_get : (p q r s : List ℕ) (a : ℕ) → a < 4 * depth p q r s
    → get_or (woven p q r s) a 0 ≡ get_or (lane p q r s (a % 4)) (a / 4) 0
unfolding woven
woven_get p q r s a h =
    get_or-map-range_with_len (λ a. get_or (lane p q r s (a % 4)) (a / 4) 0) 0 (4 * depth p q r s) a a 0 h (omega arith)

pub woven_byte : (p q r s : List ℕ) (a v : ℕ) → a / 4 < depth p q r s → v ≡ get_or (lane p q r s (a % 4)) (a / 4) 0
    → Some v ≡ byte_at (woven p q r s) a
woven_byte p q r s a v h is =
    ap Some (is ∙ sym (woven_get p q r s a (omega arith)))
    ∙ cond_below a (length (woven p q r s)) _ None (omega (arith, woven_length p q r s))

lane_after : (p q r s : List ℕ) (i b k j : ℕ) → j < 4
    → lane (lane_put i b k 0 p) (lane_put i b k 1 q) (lane_put i b k 2 r) (lane_put i b k 3 s) j ≡ lane_put i b k j (lane p q r s j)
lane_after p q r s i b k zero h = refl
lane_after p q r s i b k (suc zero) h = refl
lane_after p q r s i b k (suc (suc zero)) h = refl
lane_after p q r s i b k (suc (suc (suc zero))) h = refl
lane_after p q r s i b k (suc (suc (suc (suc j)))) h = absurd (omega arith)

lane_long : (p q r s : List ℕ) (j : ℕ) → j < 4 → depth p q r s ≤ length (lane p q r s j)
lane_long p q r s zero h = omega arith
lane_long p q r s (suc zero) h = omega arith
lane_long p q r s (suc (suc zero)) h = omega arith
lane_long p q r s (suc (suc (suc zero))) h = omega arith
lane_long p q r s (suc (suc (suc (suc j)))) h = absurd (omega arith)

after_length : (i b k j : ℕ) (l : List ℕ) → length (lane_put i b k j l) ≡ length l
after_length i b k j l =
    elim (eqb k j) as (λ t. length (cond t (set l i b) l) ≡ length l) [ true ↦ length-set l i b | false ↦ refl ]

after_rest : (n i b k j : ℕ) (l : List ℕ) → i < n → drop n (lane_put i b k j l) ≡ drop n l
after_rest n i b k j l h =
    elim (eqb k j) as (λ t. drop n (cond t (set l i b) l) ≡ drop n l) [ true ↦ drop-set-lt n l i b h | false ↦ refl ]

after_depth : (p q r s : List ℕ) (i b k : ℕ)
    → depth (lane_put i b k 0 p) (lane_put i b k 1 q) (lane_put i b k 2 r) (lane_put i b k 3 s) ≡ depth p q r s
after_depth p q r s i b k =
    let e0 = after_length i b k 0 p in
    let e1 = after_length i b k 1 q in
    let e2 = after_length i b k 2 r in
    let e3 = after_length i b k 3 s in
    cc

after_here : (i b k j : ℕ) (l : List ℕ) → k ≡ j → i < length l → get_or (lane_put i b k j l) i 0 ≡ b
after_here i b k j l e h =
    ap (λ t. get_or (cond t (set l i b) l) i 0) (eq-eqb k j e) ∙ get_or-set_same l i b 0 h

after_else : (i b k j x : ℕ) (l : List ℕ) → (k ≡ j → x ≡ i → ⊥) → get_or (lane_put i b k j l) x 0 ≡ get_or l x 0
after_else i b k j x l h =
    ⊎_elim
    (λ (e : k ≡ j). ap (λ t. get_or (cond t (set l i b) l) x 0) (eq-eqb k j e) ∙ get_or-set_other l i x b 0 (h e))
    (λ (e : k ≡ j → ⊥). ap (λ t. get_or (cond t (set l i b) l) x 0) (ne_eqb k j e))
    (cases_eq k j)

pub woven_put : (p q r s : List ℕ) (a b k : ℕ) → a / 4 < depth p q r s → a % 4 ≡ k
    → woven (lane_put (a / 4) b k 0 p) (lane_put (a / 4) b k 1 q) (lane_put (a / 4) b k 2 r) (lane_put (a / 4) b k 3 s)
    ≡ byte_put (woven p q r s) a b
unfolding woven
woven_put p q r s a b k h e =
    let n = depth p q r s in
    let old = woven p q r s in
    let i = a / 4 in
    let long = woven_length p q r s in
    let p' = lane_put i b k 0 p in
    let q' = lane_put i b k 1 q in
    let r' = lane_put i b k 2 r in
    let s' = lane_put i b k 3 s in
    let f : ℕ → ℕ = λ x. get_or (lane p' q' r' s' (x % 4)) (x / 4) 0 in
    ap (λ m. map f (range_with_len 0 (4 * m))) (after_depth p q r s i b k)
    ∙ sym (fill_by_all f (set old a b) (4 * n) 0 (length-set old a b ∙ long) (λ x below.
    let lane-is = ap (λ l. get_or l (x / 4) 0) (lane_after p q r s i b k (x % 4) (omega arith)) in
    ⊎_elim
    (λ (same : x ≡ a).
    let here = after_here i b k (x % 4) (lane p q r s (x % 4)) (omega arith) (omega (arith, lane_long p q r s (x % 4) (omega arith))) in
    ap (λ y. get_or (set old a b) y 0) same ∙ get_or-set_same old a b 0 (omega arith) ∙ sym here
    ∙ ap (λ y. get_or (lane_put i b k (x % 4) (lane p q r s (x % 4))) (y / 4) 0) (sym same) ∙ sym lane-is)
    (λ (other : x ≡ a → ⊥).
    get_or-set_other old a x b 0 other ∙ woven_get p q r s x below
    ∙ sym (after_else i b k (x % 4) (x / 4) (lane p q r s (x % 4)) (λ e1 e2. other (omega arith))) ∙ sym lane-is)
    (cases_eq x a)))
    ∙ cond_below a (length old) _ old (omega arith)

pub loans_put : (m0 m1 m2 m3 : ℕ) (p q r s : List ℕ) (a b k : ℕ) → a / 4 < depth p q r s
    → lane_loans m0 m1 m2 m3 (lane_put (a / 4) b k 0 p) (lane_put (a / 4) b k 1 q) (lane_put (a / 4) b k 2 r) (lane_put (a / 4) b k 3 s)
    ≡ lane_loans m0 m1 m2 m3 p q r s
loans_put m0 m1 m2 m3 p q r s a b k h =
    let i = a / 4 in
    let n = depth p q r s in
    let d = after_depth p q r s i b k in
    let e0 = after_rest n i b k 0 p h in
    let e1 = after_rest n i b k 1 q h in
    let e2 = after_rest n i b k 2 r h in
    let e3 = after_rest n i b k 3 s h in
    cc

pub lanes_written : (p q r s p' q' r' s' : List ℕ) (m0 m1 m2 m3 n0 n1 n2 n3 a b : ℕ) → a / 4 < depth p q r s
    → p' ≡ lane_put (a / 4) b (a % 4) 0 p → q' ≡ lane_put (a / 4) b (a % 4) 1 q
    → r' ≡ lane_put (a / 4) b (a % 4) 2 r → s' ≡ lane_put (a / 4) b (a % 4) 3 s
    → (n0 ≡ m0) × (n1 ≡ m1) × (n2 ≡ m2) × (n3 ≡ m3)
    → (woven p' q' r' s' ≡ byte_put (woven p q r s) a b)
    × (lane_loans n0 n1 n2 n3 p' q' r' s' ≡ lane_loans m0 m1 m2 m3 p q r s)
lanes_written p q r s p' q' r' s' m0 m1 m2 m3 n0 n1 n2 n3 a b h ep eq er es names =
    let w = woven_put p q r s a b (a % 4) h refl in
    let l = loans_put m0 m1 m2 m3 p q r s a b (a % 4) h in
    let d0 = names.0 in
    let d1 = names.1 in
    let d2 = names.2 in
    let d3 = names.3 in
    ((λ i. woven (ep i) (eq i) (er i) (es i)) ∙ w, (λ i. lane_loans (d0 i) (d1 i) (d2 i) (d3 i) (ep i) (eq i) (er i) (es i)) ∙ l)

-- what a lane holds: its column of the memory, and what does not count
pub column_lane : (p q r s : List ℕ) (k : ℕ) → k < 4 → column k (woven p q r s) ≡ take (depth p q r s) (lane p q r s k)
column_lane p q r s k h =
    let n = depth p q r s in
    let long = woven_length p q r s in
    let deep = lane_long p q r s k h in
    let f : ℕ → ℕ = λ i. get_or (woven p q r s) (4 * i + k) 0 in
    let places : length (woven p q r s) / 4 ≡ n = omega arith in
    ap (λ m. map f (range_with_len 0 m)) places
    ∙ sym (fill_by_all f (take n (lane p q r s k)) n 0 (omega (arith, length-take n (lane p q r s k))) (λ i below.
    let e4 : (4 * i + k) / 4 ≡ i = omega arith in
    let em : (4 * i + k) % 4 ≡ k = omega arith in
    get_or-take n (lane p q r s k) i 0 below
    ∙ ap (λ j. get_or (lane p q r s k) j 0) (sym e4)
    ∙ ap (λ j. get_or (lane p q r s j) ((4 * i + k) / 4) 0) (sym em)
    ∙ sym (woven_get p q r s (4 * i + k) (omega arith))))

pub lane_whole : (p q r s : List ℕ) (k : ℕ) → k < 4
    → lane p q r s k ≡ column k (woven p q r s) ++ drop (depth p q r s) (lane p q r s k)
lane_whole p q r s k h =
    let n = depth p q r s in
    sym (take-append-drop n (lane p q r s k))
    ∙ ap (λ l. l ++ drop n (lane p q r s k)) (sym (column_lane p q r s k h))
