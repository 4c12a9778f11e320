-- What a memory was lent.
-- Loan        one lent buffer
-- name        which buffer it is: the ghost name of the reference that lends it
-- spare       the bytes at its end that the memory does not count
-- Assumes nothing.
use Rattle.std.specs.Prelude.{ℕ, List}

pub record Loan : Type 0 where
  pub name : ℕ
  pub spare : List ℕ
