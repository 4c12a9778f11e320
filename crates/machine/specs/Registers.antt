-- The registers, a list of 32 words. Assumes nothing.
--   value_of xs r      the word in register r; x0 is 0, and so is a number past 31, which no register has
--   written xs rd v   the registers after v is written to rd; a write to x0 or past 31 is dropped
use Rattle.std.specs.Prelude.{ℕ, cond, List, ◌==◌, slice_index, slice_set}

abbrev pub value_of : List ℕ → ℕ → ℕ
value_of xs r = cond (r == 0) 0 (slice_index xs r)

abbrev pub written : List ℕ → (rd v : ℕ) → List ℕ
written xs rd v = cond (rd == 0) xs (slice_set xs rd v)
