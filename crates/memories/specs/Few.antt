-- The built memories have fewer bytes than there are addresses.
-- flat_few, lanes_few   the proof, for one buffer and for four lanes
-- Assumes nothing.
use Rattle.std.specs.Prelude.{ℕ, ◌*◌, ◌/◌, ◌%◌, ◌^◌, ◌<◌, List, length, slice_index}
use Rattle.std.proofs.Common.{arith, length-take}
use Rattle.std.proofs.lemmas.List.FromFn.{length-map-range_with_len}
use Rattle.memories.specs.Layout.{limit, counted, lane, depth, woven}

pub flat_few : (xs : List ℕ) → length (counted xs) < 2 ^ 32
unfolding counted
flat_few xs = omega (arith, length-take limit xs)

pub lanes_few : (p q r s : List ℕ) → length (woven p q r s) < 2 ^ 32
unfolding woven
lanes_few p q r s =
    omega (arith, length-map-range_with_len (λ a. slice_index (lane p q r s (a % 4)) (a / 4)) 0 (4 * depth p q r s))
