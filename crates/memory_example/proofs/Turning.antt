-- Four pages as one memory.
use Rattle.std.proofs.Common.{◌≡◌, ℕ, ◌/◌, ◌%◌, ◌<◌, List, length, get_or, set, Some, None, sym, ap, ◌∙◌, ⊎_elim, arith, length-set, get_or-set_other, get_or-set_same}
use Rattle.std.proofs.lemmas.List.FromFn.{length-map-range_with_len, get_or-map-range_with_len, fill_by_all}
use Rattle.std.proofs.lemmas.Bool.{cases_eq, cond_below}
use Rattle.memory.specs.Bytes.{byte_at, byte_put}
use Rattle.memory_example.specs.Paged.{PageBytes, shown, turned, laid}

abbrev place : List PageBytes → ℕ → ℕ
place ps a = get_or (shown (get_or ps (a / 16) None)) (a % 16) 0

pub laid_length : (ps : List PageBytes) → length (laid ps) ≡ 64
unfolding laid
laid_length ps = length-map-range_with_len (place ps) 0 64

pub laid_get : (ps : List PageBytes) (a : ℕ) → a < 64 → get_or (laid ps) a 0 ≡ place ps a
unfolding laid
laid_get ps a h = get_or-map-range_with_len (place ps) 0 64 a a 0 h (omega arith)

pub laid_byte : (ps : List PageBytes) (a : ℕ) (bs : List ℕ) → bs ≡ shown (get_or ps (a / 16) None) → a < 64
    → Some (get_or bs (a % 16) 0) ≡ byte_at (laid ps) a
laid_byte ps a bs is h =
    ap (λ l. Some (get_or l (a % 16) 0)) is ∙ ap Some (sym (laid_get ps a h)) ∙ cond_below a (length (laid ps)) _ None (omega (arith, laid_length ps))

laid_turned : (ps : List PageBytes) (a b : ℕ) → a < 64 → length ps ≡ 4 → length (shown (get_or ps (a / 16) None)) ≡ 16
    → laid (turned ps (a / 16) (a % 16) b) ≡ byte_put (laid ps) a b
unfolding laid
laid_turned ps a b h four long =
    let i = a / 16 in
    let j = a % 16 in
    let old = laid ps in
    let page = Some (set (shown (get_or ps i None)) j b) in
    let size = laid_length ps in
    let here = get_or-set_same ps i page None (omega arith) in
    sym (fill_by_all (place (turned ps i j b)) (set old a b) 64 0 (length-set old a b ∙ size) (λ x below.
    ⊎_elim
    (λ (same : x ≡ a).
    ap (λ y. get_or (set old a b) y 0) same ∙ get_or-set_same old a b 0 (omega arith)
    ∙ sym (get_or-set_same (shown (get_or ps i None)) j b 0 (omega arith))
    ∙ ap (λ p. get_or (shown p) j 0) (sym here) ∙ ap (place (turned ps i j b)) (sym same))
    (λ (other : x ≡ a → ⊥).
    get_or-set_other old a x b 0 other ∙ laid_get ps x below
    ∙ ⊎_elim
    (λ (e : x / 16 ≡ i).
    ap (λ y. get_or (shown (get_or ps y None)) (x % 16) 0) e
    ∙ sym (get_or-set_other (shown (get_or ps i None)) j (x % 16) b 0 (λ f. other (omega arith)))
    ∙ ap (λ p. get_or (shown p) (x % 16) 0) (sym here)
    ∙ ap (λ y. get_or (shown (get_or (turned ps i j b) y None)) (x % 16) 0) (sym e))
    (λ (e : x / 16 ≡ i → ⊥). ap (λ p. get_or (shown p) (x % 16) 0) (sym (get_or-set_other ps i (x / 16) page None e)))
    (cases_eq (x / 16) i))
    (cases_eq x a)))
    ∙ cond_below a (length old) _ old (omega arith)

pub laid_put : (ps : List PageBytes) (a b : ℕ) (bs : List ℕ) → bs ≡ shown (get_or ps (a / 16) None) → a < 64
    → length ps ≡ 4 → length bs ≡ 16
    → laid (set ps (a / 16) (Some (set bs (a % 16) b))) ≡ byte_put (laid ps) a b
laid_put ps a b bs is h four long =
    ap (λ l. laid (set ps (a / 16) (Some (set l (a % 16) b)))) is
    ∙ laid_turned ps a b h four (ap length (sym is) ∙ long)
