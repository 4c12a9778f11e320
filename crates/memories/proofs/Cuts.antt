-- A buffer of which only the first places count.
use Rattle.std.proofs.Common.{◌≡◌, ℕ, suc, ◌+◌, ◌<◌, ◌≤◌, min, leb, List, [], ◌∷◌, ◌++◌, length, set, take, drop, sym, refl, ap, ◌∙◌, arith, append_assoc, length-take, length-drop, drop-set-lt}
use Rattle.std.proofs.Math.Seq.{sets, sets-eq, drop-drop, take-set-lt}
use Rattle.std.proofs.lemmas.Bool.{cond-true, le-leb}
use Rattle.std.proofs.lemmas.List.{take_min}
use Rattle.memories.specs.Layout.{limit, counted, uncounted, bytes_put}

pub counted_min : (xs : List ℕ) (n : ℕ) → n ≡ min (length xs) limit → take n xs ≡ counted xs
unfolding counted
counted_min xs n is =
    let turned : n ≡ min limit (length xs) = omega arith in
    ap (λ k. take k xs) turned ∙ take_min limit xs

counted_set : (xs : List ℕ) (a b : ℕ) → a < limit → counted (set xs a b) ≡ set (counted xs) a b
unfolding counted
counted_set xs a b h = take-set-lt limit xs a b h

uncounted_set : (xs : List ℕ) (a b : ℕ) → a < limit → uncounted (set xs a b) ≡ uncounted xs
unfolding uncounted
uncounted_set xs a b h = drop-set-lt limit xs a b h

-- the same of a run of stores
counted_sets : (vs xs : List ℕ) (a : ℕ) → a + length vs ≤ limit → counted (sets xs a vs) ≡ sets (counted xs) a vs
counted_sets [] xs a h = refl
counted_sets (v ∷ vs) xs a h =
    counted_sets vs (set xs a v) (suc a) (omega arith) ∙ ap (λ l. sets l (suc a) vs) (counted_set xs a v (omega arith))

uncounted_sets : (vs xs : List ℕ) (a : ℕ) → a + length vs ≤ limit → uncounted (sets xs a vs) ≡ uncounted xs
uncounted_sets [] xs a h = refl
uncounted_sets (v ∷ vs) xs a h =
    uncounted_sets vs (set xs a v) (suc a) (omega arith) ∙ uncounted_set xs a v (omega arith)

-- a copy of n bytes into the k from place a on is a run of stores
copied : (xs ys vs : List ℕ) (a n k : ℕ) → ys ≡ vs → length ys ≡ length (take k (drop a xs)) → k ≡ n
    → a + n ≤ min (length xs) limit
    → (length vs ≡ n) × (take a xs ++ (ys ++ drop k (drop a xs)) ≡ sets xs a vs)
copied xs ys vs a n k is long kn h =
    let lt = length-take k (drop a xs) in
    let ld = length-drop a xs in
    let lv : length vs ≡ n = omega (arith, ap length is) in
    let end : a + k ≡ a + length vs = omega arith in (
      lv,
      ap (λ l. take a xs ++ (l ++ drop k (drop a xs))) is
          ∙ ap (λ l. take a xs ++ (vs ++ l)) (drop-drop k a xs ∙ ap (λ m. drop m xs) end)
          ∙ sym (append_assoc (take a xs) vs (drop (a + length vs) xs))
          ∙ sym (sets-eq vs xs a (omega arith)),
    )

-- what a write leaves: the bytes that count, with the new ones, and those that do not, as they were
pub counted_put : (xs ys vs : List ℕ) (a n k : ℕ) → ys ≡ vs → length ys ≡ length (take k (drop a xs)) → k ≡ n
    → a + n ≤ min (length xs) limit
    → counted (take a xs ++ (ys ++ drop k (drop a xs))) ≡ bytes_put (counted xs) a n vs
counted_put xs ys vs a n k is long kn h =
    let done = copied xs ys vs a n k is long kn h in
    let lv = done.0 in
    let lc = ap length (counted_min xs (min (length xs) limit) refl) in
    let lt = length-take (min (length xs) limit) xs in
    ap counted done.1 ∙ counted_sets vs xs a (omega arith)
    ∙ sym (cond-true (leb (a + n) (length (counted xs))) _ _ (le-leb _ _ (omega arith)))

pub uncounted_put : (xs ys vs : List ℕ) (a n k : ℕ) → ys ≡ vs → length ys ≡ length (take k (drop a xs)) → k ≡ n
    → a + n ≤ min (length xs) limit
    → uncounted (take a xs ++ (ys ++ drop k (drop a xs))) ≡ uncounted xs
uncounted_put xs ys vs a n k is long kn h =
    let done = copied xs ys vs a n k is long kn h in
    let lv = done.0 in
    ap uncounted done.1 ∙ uncounted_sets vs xs a (omega arith)
