-- The dedicated registers, x22 to x27. Assumes nothing.
--   Pointer       Data, through which stores go, or Code, through which indirect jumps go
--   register q    the register of the pointer q
--   mask q        the register that holds its mask
--   base q        the register that holds its base
--   dedicated r   r is one of the six
--   may_store r    a store may have the base r
use Rattle.std.specs.Prelude.{ℕ, Bool, ◌&&◌, ◌==◌, nat_le}
use Rattle.code_check.specs.declared.pointers.Pointer.{Pointer}
use Rattle.code_check.specs.declared.pointers.Pointer.TheVariants.{Data, Code}

abbrev pub register : Pointer → ℕ
register Data = 27
register Code = 26

abbrev pub mask : Pointer → ℕ
mask Data = 25
mask Code = 23

abbrev pub base : Pointer → ℕ
base Data = 24
base Code = 22

abbrev pub dedicated : ℕ → Bool
dedicated r = nat_le 22 r && nat_le r 27

abbrev pub may_store : ℕ → Bool
may_store r = r == register Data
