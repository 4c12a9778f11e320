-- What the lenders' example does to a memory.
-- stamped       the bytes with a fixed word at an address, and a fixed byte at address 0
-- Assumes nothing.
use Rattle.std.specs.Prelude.{ℕ, List}
use Rattle.memory.specs.Bytes.{byte_put, word_put}

abbrev pub stamped : List ℕ → ℕ → List ℕ
stamped bs a = byte_put (word_put bs a 67305985) 0 7
