-- The offset of a store has 12 bits.
use Rattle.std.proofs.Common.{◌≡◌, ℕ, ◌+◌, ◌-◌, ◌*◌, ◌^◌, ◌<◌, ltb, ℤ, pos, negsuc, Ok, subst, arith}
use Rattle.std.proofs.lemmas.Bool.{cond_both, ltb-true, ltb-false}
use Rattle.rv32i.specs.declared.operations.StoreOp.{StoreOp}
use Rattle.rv32i.specs.declared.operations.StoreOp.TheVariants.{Sb, Sh, Sw}
use Rattle.rv32i.specs.declared.instructions.Instruction.TheVariants.{Store}
use Rattle.rv32i.specs.Fields.{bits, signed, imm_s}
use Rattle.rv32i.specs.Listing.{Holds}
use Rattle.rv32i.specs.Decoded.{decoded}
use Rattle.rv32i.proofs.Held.{decodes_holds}
use Rattle.domain.proofs.Places.{Short}

short_signed : (x : ℕ) → x < 2 ^ 12 → Short (signed 12 x)
short_signed x h = cond_both (ltb x (2 ^ 11)) (pos x) (negsuc (2 ^ 12 - 1 - x)) Short (λ e. ltb-true x (2 ^ 11) e) (λ e. omega (arith, ltb-false x (2 ^ 11) e))

short_s : (w : ℕ) → Short (imm_s w)
short_s w = short_signed (bits w 31 25 * 2 ^ 5 + bits w 11 7) (omega arith)

offset_is : (w rs1 rs2 : ℕ) (k : StoreOp) (z : ℤ) → Holds w (Store k rs1 rs2 z) → imm_s w ≡ z
offset_is w rs1 rs2 Sb z h = h.4
offset_is w rs1 rs2 Sh z h = h.4
offset_is w rs1 rs2 Sw z h = h.4

pub short_store : (w rs1 rs2 : ℕ) (k : StoreOp) (z : ℤ) → decoded w ≡ Ok (Store k rs1 rs2 z) → Short z
short_store w rs1 rs2 k z e = subst Short (offset_is w rs1 rs2 k z (decodes_holds w (Store k rs1 rs2 z) e)) (short_s w)
