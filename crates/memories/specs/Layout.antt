-- How the bytes of the built memories lie in what they were lent.
-- limit       no memory counts more bytes than this
-- counted     the bytes of a buffer that count
-- uncounted   those past them
-- bytes_at    n bytes from an address on; none unless all of them lie below the size
-- bytes_put   the bytes with the n from an address on replaced; as they were unless all of them lie below the size
-- lane        one of four lanes, by number
-- depth       how many places of each lane count
-- woven       the bytes of four lanes: address a at place a / 4 of lane a % 4
-- lane_loans  the four lanes as loans: what lies past the depth does not count
-- lane_put    lane j once byte b was put at place i of lane k
-- column      the bytes at the addresses k, k + 4, k + 8, ..: what lane k holds of a memory
-- Assumes nothing.
use Rattle.std.specs.Prelude.{ℕ, ◌+◌, ◌*◌, ◌/◌, ◌%◌, min, cond, List, [], ◌∷◌, map, length, take, drop, ◌==◌, slice_index, slice_set, nat_le, Some, None, Option}
use Rattle.std.specs.List.{range_with_len}
use Rattle.std.proofs.Math.Seq.{sets}
use Rattle.memory.specs.Loans.{Loan}

abbrev pub limit : ℕ
limit = 1048576

unfoldable pub counted : List ℕ → List ℕ
counted xs = take limit xs

unfoldable pub uncounted : List ℕ → List ℕ
uncounted xs = drop limit xs

abbrev pub bytes_at : List ℕ → ℕ → ℕ → Option (List ℕ)
bytes_at bs a n = cond (nat_le (a + n) (length bs)) (Some (take n (drop a bs))) None

abbrev pub bytes_put : List ℕ → ℕ → ℕ → List ℕ → List ℕ
bytes_put bs a n vs = cond (nat_le (a + n) (length bs)) (sets bs a vs) bs

abbrev pub lane : List ℕ → List ℕ → List ℕ → List ℕ → ℕ → List ℕ
lane p q r s k = cond (k == 0) p (cond (k == 1) q (cond (k == 2) r s))

abbrev pub depth : List ℕ → List ℕ → List ℕ → List ℕ → ℕ
depth p q r s = min (min (min (length p) (length q)) (min (length r) (length s))) (limit / 4)

unfoldable pub woven : List ℕ → List ℕ → List ℕ → List ℕ → List ℕ
woven p q r s = map (λ a. slice_index (lane p q r s (a % 4)) (a / 4)) (range_with_len 0 (4 * depth p q r s))

abbrev pub lane_loans : ℕ → ℕ → ℕ → ℕ → List ℕ → List ℕ → List ℕ → List ℕ → List Loan
lane_loans i j k l p q r s =
    record { name = i; spare = drop (depth p q r s) p } ∷ record { name = j; spare = drop (depth p q r s) q }
    ∷ record { name = k; spare = drop (depth p q r s) r } ∷ record { name = l; spare = drop (depth p q r s) s } ∷ []

abbrev pub lane_put : ℕ → ℕ → ℕ → ℕ → List ℕ → List ℕ
lane_put i b k j l = cond (k == j) (slice_set l i b) l

abbrev pub column : ℕ → List ℕ → List ℕ
column k bs = map (λ i. slice_index bs (4 * i + k)) (range_with_len 0 (length bs / 4))
