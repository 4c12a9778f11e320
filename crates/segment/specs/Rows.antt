-- Which segments there are. Assumes nothing.
--   row s         the base and the bits of a segment
--   row_in r       r, with its segment by base and bits and its refusal by the numbers that tell it
--   made b k n    the segment of 2 ^ k bytes from b in a memory of n bytes, or why there is none
use Rattle.std.specs.Prelude.{ℕ, ◌+◌, ◌%◌, ◌^◌, min, Bool, cond, ◌&&◌, List, Ok, Err, Result, ◌==◌, nat_le}
use Rattle.refusal.specs.declared.refusals.Refusal.{Refusal}
use Rattle.refusal.specs.declared.refusals.Refusal.TheVariants.{SegmentBits, SegmentPlace}
use Rattle.refusal.specs.Told.{told}
use Rattle.segment.specs.declared.segments.Segment.{Segment}
use Rattle.segment.specs.Guards.{Row}

abbrev pub row : Segment → Row
row s = record { base = s.base; bits = s.bits }

abbrev pub row_in : Result Segment Refusal → Result Row (List ℕ)
row_in (Ok s) = Ok (row s)
row_in (Err e) = Err (told e)

-- k is from 10 to 16
abbrev pub bits_fit : ℕ → Bool
bits_fit k = nat_le 10 k && nat_le k 16

-- the base is a multiple of the size, and the segment ends in the memory and by 1,048,576
abbrev pub placed : (b k n : ℕ) → Bool
placed b k n = b % 2 ^ k == 0 && nat_le (b + 2 ^ k) (min n 1048576)

abbrev pub made : (b k n : ℕ) → Result Row (List ℕ)
made b k n = cond (bits_fit k) (cond (placed b k n) (Ok (record { base = b; bits = k })) (Err (told SegmentPlace))) (Err (told SegmentBits))
