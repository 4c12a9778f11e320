-- A memory of four pages of 16 bytes each.
-- PageBytes     one page; none where it is absent
-- shown         the bytes of a page; one that is absent shows zeros
-- turned        the pages once byte b was put at place j of page i
-- laid          the pages' bytes one after another: address a at place a % 16 of page a / 16
-- Assumes nothing.
use Rattle.std.specs.Prelude.{ℕ, ◌/◌, ◌%◌, ◌^◌, ◌<◌, List, map, length, replicate, slice_index, slice_index_or, slice_set, Option, Some, None}
use Rattle.std.proofs.Common.{arith}
use Rattle.std.specs.List.{range_with_len}
use Rattle.std.proofs.lemmas.List.FromFn.{length-map-range_with_len}

abbrev pub PageBytes : Type 0
PageBytes = Option (List ℕ)

abbrev pub shown : PageBytes → List ℕ
shown None = replicate 16 0
shown (Some bs) = bs

abbrev pub turned : List PageBytes → ℕ → ℕ → ℕ → List PageBytes
turned ps i j b = slice_set ps i (Some (slice_set (shown (slice_index_or ps i None)) j b))

unfoldable pub laid : List PageBytes → List ℕ
laid ps = map (λ a. slice_index (shown (slice_index_or ps (a / 16) None)) (a % 16)) (range_with_len 0 64)

pub laid_few : (ps : List PageBytes) → length (laid ps) < 2 ^ 32
unfolding laid
laid_few ps = omega (arith, length-map-range_with_len (λ a. slice_index (shown (slice_index_or ps (a / 16) None)) (a % 16)) 0 64)
