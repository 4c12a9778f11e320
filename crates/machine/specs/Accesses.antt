-- What loads and stores move. Assumes nothing.
--   load_width op, store_width op   how wide the access is
--   extended op n                 the word that a load makes of the number n that its bytes hold in little-endian order
--   datum_of op v                  what a store of the word v puts into memory
use Rattle.std.specs.Prelude.{ℕ, ◌%◌, ◌^◌}
use Rattle.rv32i.specs.Fields.{signed}
use Rattle.rv32i.specs.Encoded.{twos}
use Rattle.rv32i.specs.declared.operations.LoadOp.{LoadOp}
use Rattle.rv32i.specs.declared.operations.LoadOp.TheVariants.{Lb, Lh, Lw, Lbu, Lhu}
use Rattle.rv32i.specs.declared.operations.StoreOp.{StoreOp}
use Rattle.rv32i.specs.declared.operations.StoreOp.TheVariants.{Sb, Sh, Sw}
use Rattle.machine.specs.declared.widths.Width.{Width}
use Rattle.machine.specs.declared.widths.Width.TheVariants.{Byte, Half, Word}
use Rattle.machine.specs.declared.widths.Datum.{Datum}
use Rattle.machine.specs.declared.widths.Datum.TheVariants.{U8, U16, U32}

abbrev pub load_width : LoadOp → Width
load_width Lb = Byte
load_width Lh = Half
load_width Lw = Word
load_width Lbu = Byte
load_width Lhu = Half

abbrev pub store_width : StoreOp → Width
store_width Sb = Byte
store_width Sh = Half
store_width Sw = Word

abbrev pub extended : LoadOp → ℕ → ℕ
extended Lb n = twos 32 (signed 8 (n % 2 ^ 8))
extended Lh n = twos 32 (signed 16 (n % 2 ^ 16))
extended Lw n = n
extended Lbu n = n % 2 ^ 8
extended Lhu n = n % 2 ^ 16

abbrev pub datum_of : StoreOp → ℕ → Datum
datum_of Sb v = U8 (v % 2 ^ 8)
datum_of Sh v = U16 (v % 2 ^ 16)
datum_of Sw v = U32 v
