-- The words of a store, decoded once.
use Rattle.std.proofs.Common.{◌≡◌, ℕ, ◌/◌, ◌%◌, ◌<◌, ◌≤◌, true, false, ◌&&◌, eqb, ltb, List, map, length, get_or, take, Err, sym, ap, ◌∙◌, arith, length-take}
use Rattle.std.proofs.lemmas.List.{get_or-map, length-map, get_or-take}
use Rattle.std.proofs.lemmas.Bool.{cond-true, cond-false}
use Rattle.std.proofs.lemmas.Bool.Decides.{nat_tests}
use Rattle.rv32i.specs.Decoded.{Decoding, decoded}
use Rattle.machine.specs.declared.stops.Stop.TheVariants.{Fetch}
use Rattle.code_check.specs.Windows.{counted}
use Rattle.yard_steps.specs.Steps.{found, fetched}

module _ (ws : List ℕ) (cells : List Decoding) (is : cells ≡ map decoded (take (counted ws) ws)) where
  pub cells_length : length cells ≡ counted ws
  cells_length = ap length is ∙ (length-map (take (counted ws) ws) decoded ∙ omega (arith, length-take (counted ws) ws))

  pub cell_at : (i : ℕ) (x : Decoding) → i < length cells → get_or cells i x ≡ decoded (get_or ws i 0)
  cell_at i x lt =
      let few : i < counted ws = omega (arith, cells_length) in
      let short : i < length (take (counted ws) ws) = omega (arith, cells_length, length-take (counted ws) ws) in
      ap (λ (l : List Decoding). get_or l i x) is ∙ (get_or-map decoded (take (counted ws) ws) i 0 x short ∙ ap decoded (get_or-take (counted ws) ws i 0 few))

  -- a pc that no word has
  pub unaligned : (pc : ℕ) → (pc % 4 ≡ 0 → ⊥) → fetched ws pc ≡ Err (Fetch pc)
  unaligned pc ne = cond-false (eqb (pc % 4) 0 && ltb (pc / 4) (counted ws)) _ _ (test (pc % 4) (pc / 4) (counted ws) ne)
    where
      test : (r i n : ℕ) → (r ≡ 0 → ⊥) → (eqb r 0 && ltb i n) ≡ false
      test r i n ne = grind (arith, nat_tests)

  -- a pc past the store
  pub past : (pc : ℕ) → length cells ≤ pc / 4 → fetched ws pc ≡ Err (Fetch pc)
  past pc le = cond-false (eqb (pc % 4) 0 && ltb (pc / 4) (counted ws)) _ _ (test (pc % 4) (pc / 4) (counted ws) (omega (arith, cells_length)))
    where
      test : (r i n : ℕ) → n ≤ i → (eqb r 0 && ltb i n) ≡ false
      test r i n le = grind (arith, nat_tests)

  -- a word of it
  pub within : (pc : ℕ) (x d : Decoding) → pc % 4 ≡ 0 → pc / 4 < length cells → get_or cells (pc / 4) x ≡ d → fetched ws pc ≡ found (get_or ws (pc / 4) 0) d
  within pc x d even lt e =
      cond-true (eqb (pc % 4) 0 && ltb (pc / 4) (counted ws)) _ _ (test (pc % 4) (pc / 4) (counted ws) even (omega (arith, cells_length)))
      ∙ ap (found (get_or ws (pc / 4) 0)) (sym (cell_at (pc / 4) x lt) ∙ e)
    where
      test : (r i n : ℕ) → r ≡ 0 → i < n → (eqb r 0 && ltb i n) ≡ true
      test r i n e lt = grind (arith, nat_tests)
