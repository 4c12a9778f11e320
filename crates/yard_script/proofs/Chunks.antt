-- The words of bytes are the numbers of their chunks.
use Rattle.std.proofs.Common.{◌≡◌, ℕ, ◌+◌, ◌*◌, ◌<◌, zero, suc, List, ◌∷◌, map, take, drop, get_or, refl, ap₂, ap, ◌∙◌, arith, w32}
use Rattle.std.proofs.lemmas.List.{get_or-take, get_or-drop, drop-drop}
use Rattle.std.specs.Int.{from_le_bytes}
use Rattle.std.specs.List.{range_with_len}
use Rattle.std.specs.Simd.{first_chunks}
use Rattle.yard_script.specs.Words.{word_at}

byte_of : (bs : List ℕ) (n j m : ℕ) → j < 4 → n + j ≡ m → get_or (take 4 (drop n bs)) j 0 ≡ get_or bs m 0
byte_of bs n j m h e = get_or-take 4 (drop n bs) j 0 h ∙ get_or-drop n bs j 0 ∙ ap (λ k. get_or bs k 0) e

word_of : (bs : List ℕ) (i : ℕ) → from_le_bytes w32 (take 4 (drop (4 * i) bs)) ≡ word_at bs i
word_of bs i =
    let n = 4 * i in
    let b0 = byte_of bs n 0 n (omega arith) (omega arith) in
    let b1 = byte_of bs n 1 (n + 1) (omega arith) refl in
    let b2 = byte_of bs n 2 (n + 2) (omega arith) refl in
    let b3 = byte_of bs n 3 (n + 3) (omega arith) refl in
    rw (b0, b1, b2, b3) refl

pub numbers_of-first_chunks : (bs : List ℕ) (k i : ℕ) → map (from_le_bytes w32) (first_chunks 4 k (drop (4 * i) bs)) ≡ map (word_at bs) (range_with_len i k)
numbers_of-first_chunks bs zero i = refl
numbers_of-first_chunks bs (suc k) i =
    let here : 4 * i + 4 ≡ 4 * (i + 1) = omega arith in
    let next = drop-drop 4 (4 * i) bs ∙ ap (λ n. drop n bs) here in
    ap₂ ◌∷◌ (word_of bs i) (ap (λ l. map (from_le_bytes w32) (first_chunks 4 k l)) next ∙ numbers_of-first_chunks bs k (i + 1))
