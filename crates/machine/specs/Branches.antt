-- The conditions of the branches. Assumes nothing.
--   is_taken op a b   whether the branch is taken, a and b being the words in its two registers
use Rattle.std.specs.Prelude.{ℕ, Bool, not, ◌==◌, int_lt, nat_lt}
use Rattle.rv32i.specs.Fields.{signed}
use Rattle.rv32i.specs.declared.operations.BranchOp.{BranchOp}
use Rattle.rv32i.specs.declared.operations.BranchOp.TheVariants.{Beq, Bne, Blt, Bge, Bltu, Bgeu}

abbrev pub is_taken : BranchOp → (a b : ℕ) → Bool
is_taken Beq a b = a == b
is_taken Bne a b = not (a == b)
is_taken Blt a b = int_lt (signed 32 a) (signed 32 b)
is_taken Bge a b = not (int_lt (signed 32 a) (signed 32 b))
is_taken Bltu a b = nat_lt a b
is_taken Bgeu a b = not (nat_lt a b)
