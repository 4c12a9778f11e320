-- Where a word of the window goes.
use Rattle.std.proofs.Common.{◌≡◌, ℕ, suc, ◌+◌, ◌-◌, ◌*◌, ◌/◌, ◌%◌, ◌^◌, ◌<◌, length, ℤ, pos, negsuc, ◌+ℤ◌, sym, ap, ◌∙◌, subst, arith}
use Rattle.std.proofs.lemmas.Int.{ints}
use Rattle.segment.specs.Guards.{Inside, Near}
use Rattle.segment.proofs.Blocks.{base_quad}
use Rattle.machine.specs.Arithmetic.{plus}
use Rattle.machine.specs.Executed.{next_of, even}
use Rattle.domain.specs.Confined.{Domain, Admitted, InCode, place_of}

-- an immediate of 12 bits
abbrev pub Short : ℤ → Type 0
Short (pos k) = k < 2048
Short (negsuc k) = k < 2048

-- 4 * p and z make 4 * t
over : (b p t : ℕ) (z : ℤ) → b + 4 * p < 2 ^ 32 → b + 4 * t < 2 ^ 32 → pos (4 * p) +ℤ z ≡ pos (4 * t) → plus (b + 4 * p) z ≡ b + 4 * t
over b p t (pos k) l h e = let f : 4 * p + k ≡ 4 * t = omega (arith, ints) in omega arith
over b p t (negsuc k) l h e = let f : 4 * p ≡ 4 * t + suc k = omega (arith, ints) in omega arith

module _ (d : Domain) (ok : Admitted d) where
  pub quad : d.base % 4 ≡ 0
  quad = base_quad d.base d.m (let l = ok.low in omega arith) ok.aligned

  pub place_lt : (a : ℕ) → InCode d a → place_of d a < length d.words
  place_lt a h = let w = ok.whole in let l = h.1 in omega arith

  pub place_is : (a : ℕ) → InCode d a → a ≡ d.base + 4 * place_of d a
  place_is a h = let q = quad in let e = h.2 in let l = h.0 in omega arith

  pub word_in : (t : ℕ) → t < length d.words → InCode d (d.base + 4 * t)
  word_in t h = let w = ok.whole in let q = quad in (omega arith, omega arith, omega arith)

  pub next_is : (a : ℕ) → InCode d a → next_of a ≡ d.base + 4 * (place_of d a + 1)
  next_is a h = let e = place_is a h in let c = ok.counts in let l = h.1 in omega arith

  pub next_in : (a : ℕ) → InCode d a → (place_of d a + 1 ≡ length d.words → ⊥) → InCode d (next_of a)
  next_in a h n = let l = place_lt a h in subst (InCode d) (sym (next_is a h)) (word_in (place_of d a + 1) (omega (arith, n)))

  pub next_place : (a : ℕ) → InCode d a → place_of d (next_of a) ≡ place_of d a + 1
  next_place a h = ap (place_of d) (next_is a h) ∙ (let e : (d.base + 4 * (place_of d a + 1) - d.base) / 4 ≡ place_of d a + 1 = omega arith in e)

  pub target_in : (a t : ℕ) (z : ℤ) → InCode d a → t < length d.words → pos (4 * place_of d a) +ℤ z ≡ pos (4 * t) → InCode d (plus a z)
  target_in a t z h l e =
      let w = ok.whole in
      let c = ok.counts in
      let p = place_lt a h in
      let is : plus a z ≡ d.base + 4 * t = ap (λ x. plus x z) (place_is a h) ∙ over d.base (place_of d a) t z (omega arith) (omega arith) e in
      subst (InCode d) (sym is) (word_in t l)

  pub straight : (a : ℕ) → InCode d a → even (plus a (pos 0)) ≡ a
  straight a h = let c = ok.counts in let l = h.1 in let q = h.2 in omega arith

  pub near : (a : ℕ) (z : ℤ) → Inside d.segment a → Short z → plus a z < 1048576 → Near d.segment (plus a z)
  near a (pos k) h l b = let f = ok.sound.fits in let p = h.0 in let q = h.1 in (omega arith, omega arith)
  near a (negsuc k) h l b = let f = ok.sound.fits in let p = h.0 in let q = h.1 in (omega arith, omega arith)
