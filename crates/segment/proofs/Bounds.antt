-- An aligned access that begins in a segment ends in it.
use Rattle.std.proofs.Common.{◌≡◌, ℕ, ◌%◌, ◌^◌, ◌≤◌, true, ltb, leb, ⊎_elim, arith}
use Rattle.std.proofs.lemmas.Bool.{and_parts, leb-true, ltb-true}
use Rattle.segment.specs.Guards.{Row, end, inside, Inside, Whole}
use Rattle.segment.proofs.Blocks.{power_quad, base_quad}

pub is_inside : (s : Row) (a : ℕ) → inside s a ≡ true → Inside s a
is_inside s a e = let h = and_parts (leb s.base a) (ltb a (end s)) e in (leb-true s.base a h.0, ltb-true a (end s) h.1)

pub whole : (s : Row) (a : ℕ) → 10 ≤ s.bits → s.base % 2 ^ s.bits ≡ 0 → Inside s a → Whole s a
whole s a large aligned i w j is even lt =
    let size = power_quad s.bits (omega arith) in
    let start = base_quad s.base s.bits (omega arith) aligned in
    let below = i.1 in
    let above = i.0 in
    ⊎_elim (λ (e : w ≡ 1). (omega arith, omega arith))
    (⊎_elim (λ (e : w ≡ 2). let even2 : a % 2 ≡ 0 = rw e at even in (omega arith, omega arith))
    (λ (e : w ≡ 4). let even4 : a % 4 ≡ 0 = rw e at even in (omega arith, omega arith)))
    is
