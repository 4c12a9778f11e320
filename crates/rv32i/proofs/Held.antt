-- A word decodes to an instruction exactly where it holds it, and the round trips.
use Rattle.std.proofs.Common.{◌≡◌, ℕ, ◌^◌, ◌<◌, cond, eqb, ◌⊎◌, Some, None, Ok, Err, Option, sym, refl, ap, ◌∙◌, subst, inl, inr, arith, lit<}
use Rattle.std.proofs.lemmas.Bool.Decides.{nat_tests}
use Rattle.rv32i.specs.declared.causes.Cause.TheVariants.{Funct3, Funct7}
use Rattle.rv32i.specs.declared.operations.ImmOp.{ImmOp}
use Rattle.rv32i.specs.declared.instructions.Instruction.{Instruction}
use Rattle.rv32i.specs.declared.instructions.Instruction.TheVariants.{Lui, Auipc, Jal, Jalr, Branch, Load, Store, OpImm, ShiftImm, Op, Fence, Ecall, Ebreak}
use Rattle.rv32i.specs.Fields.{opcode_of, rd_of, funct3_of, rs1_of, rs2_of, funct7_of, imm_i, imm_u, imm_j}
use Rattle.rv32i.specs.Table.{Major, lui, auipc, jal, jalr, branch, load, store, op_imm, op, misc_mem, system}
use Rattle.rv32i.specs.Table.{major7, branch3, branch_at, load3, load_at, store3, store_at, imm3, imm_at, shift3, shift7, shift_at, reg3, reg7, reg_at}
use Rattle.rv32i.specs.Listing.{Holds}
use Rattle.rv32i.specs.Decoded.{decoded, decoded_as, op_imm_by, named}
use Rattle.rv32i.specs.Encoded.{encoded}
use Rattle.rv32i.proofs.Rows.{branch_at-branch3, load_at-load3, store_at-store3, imm_at-imm3, shift_at-shift3, shift_not_imm, reg_at-reg3, branch_from, load_from, store_from, imm_from, shift_from, reg_from, named_at, named_from, decoded_at, decoded_from}
use Rattle.rv32i.proofs.Formed.{from_r, from_i, from_s, from_b, from_u, from_j}
use Rattle.rv32i.proofs.Remade.{into_r, into_i, into_s, into_b, into_u, into_j}
use Rattle.rv32i.proofs.Groups.{Grouped, grouped}

grouped_decodes : (w : ℕ) (i : Instruction) → Grouped w i → decoded w ≡ Ok i
grouped_decodes w (Lui rd z) h = decoded_at lui w h.0 ∙ (cc)
grouped_decodes w (Auipc rd z) h = decoded_at auipc w h.0 ∙ (cc)
grouped_decodes w (Jal rd z) h = decoded_at jal w h.0 ∙ (cc)
grouped_decodes w (Jalr rd rs1 z) h = decoded_at jalr w h.0 ∙ rw h.1 (cc)
grouped_decodes w (Branch k rs1 rs2 z) h = decoded_at branch w h.0 ∙ named_at Funct3 _ k _ (ap branch_at h.1 ∙ branch_at-branch3 k) ∙ (cc)
grouped_decodes w (Load k rd rs1 z) h = decoded_at load w h.0 ∙ named_at Funct3 _ k _ (ap load_at h.1 ∙ load_at-load3 k) ∙ (cc)
grouped_decodes w (Store k rs1 rs2 z) h = decoded_at store w h.0 ∙ named_at Funct3 _ k _ (ap store_at h.1 ∙ store_at-store3 k) ∙ (cc)
grouped_decodes w (OpImm k rd rs1 z) h = decoded_at op_imm w h.0 ∙ ap (λ o. op_imm_by o w) (ap imm_at h.1 ∙ imm_at-imm3 k) ∙ (cc)
grouped_decodes w (ShiftImm k rd rs1 shamt) h =
    let t : shift_at (funct3_of w) (funct7_of w) ≡ Some k = rw (h.1, h.2) (shift_at-shift3 k) in
    decoded_at op_imm w h.0 ∙ ap (λ o. op_imm_by o w) (ap imm_at h.1 ∙ shift_not_imm k) ∙ named_at Funct7 _ k _ t ∙ (cc)
grouped_decodes w (Op k rd rs1 rs2) h =
    let t : reg_at (funct3_of w) (funct7_of w) ≡ Some k = rw (h.1, h.2) (reg_at-reg3 k) in
    decoded_at op w h.0 ∙ named_at Funct7 _ k _ t ∙ (cc)
grouped_decodes w Fence h = decoded_at misc_mem w h.0 ∙ rw h.1 refl
grouped_decodes w Ecall h = subst (λ v. decoded v ≡ Ok Ecall) (sym h) refl
grouped_decodes w Ebreak h = subst (λ v. decoded v ≡ Ok Ebreak) (sym h) refl

when_zero : (f : ℕ) (k i : Instruction) → cond (eqb f 0) (Ok k) (Err Funct3) ≡ Ok i → (f ≡ 0) × (i ≡ k)
when_zero f k i e = grind (arith, nat_tests)

op_imm_from : (o : Option ImmOp) (w : ℕ) (i : Instruction) → op_imm_by o w ≡ Ok i →
    ((k : ImmOp) × (o ≡ Some k) × (i ≡ OpImm k (rd_of w) (rs1_of w) (imm_i w))) ⊎ (named Funct7 (shift_at (funct3_of w) (funct7_of w)) (λ k. ShiftImm k (rd_of w) (rs1_of w) (rs2_of w)) ≡ Ok i)
op_imm_from (Some k) w i e = inl (k, refl, cc)
op_imm_from None w i e = inr e

as_grouped : (m : Major) (w : ℕ) (i : Instruction) → opcode_of w ≡ major7 m → decoded_as m w ≡ Ok i → Grouped w i
as_grouped lui w i o e = let h : Lui (rd_of w) (imm_u w) ≡ i = cc in subst (Grouped w) h (o, refl, refl)
as_grouped auipc w i o e = let h : Auipc (rd_of w) (imm_u w) ≡ i = cc in subst (Grouped w) h (o, refl, refl)
as_grouped jal w i o e = let h : Jal (rd_of w) (imm_j w) ≡ i = cc in subst (Grouped w) h (o, refl, refl)
as_grouped jalr w i o e =
    let h = when_zero (funct3_of w) (Jalr (rd_of w) (rs1_of w) (imm_i w)) i e in
    subst (Grouped w) (sym h.1) (o, h.0, refl, refl, refl)
as_grouped branch w i o e =
    let h = named_from Funct3 (branch_at (funct3_of w)) _ i e in
    subst (Grouped w) (sym h.2) (o, branch_from (funct3_of w) h.0 h.1, refl, refl, refl)
as_grouped load w i o e =
    let h = named_from Funct3 (load_at (funct3_of w)) _ i e in
    subst (Grouped w) (sym h.2) (o, load_from (funct3_of w) h.0 h.1, refl, refl, refl)
as_grouped store w i o e =
    let h = named_from Funct3 (store_at (funct3_of w)) _ i e in
    subst (Grouped w) (sym h.2) (o, store_from (funct3_of w) h.0 h.1, refl, refl, refl)
as_grouped op_imm w i o e =
    elim (op_imm_from (imm_at (funct3_of w)) w i e) [
      | inl h ↦ subst (Grouped w) (sym h.2) (o, imm_from (funct3_of w) h.0 h.1, refl, refl, refl)
      | inr s ↦
          let h = named_from Funct7 (shift_at (funct3_of w) (funct7_of w)) _ i s in
          let f = shift_from (funct3_of w) (funct7_of w) h.0 h.1 in
          subst (Grouped w) (sym h.2) (o, f.0, f.1, refl, refl, refl)
    ]
as_grouped op w i o e =
    let h = named_from Funct7 (reg_at (funct3_of w) (funct7_of w)) _ i e in
    let f = reg_from (funct3_of w) (funct7_of w) h.0 h.1 in
    subst (Grouped w) (sym h.2) (o, f.0, f.1, refl, refl, refl)
as_grouped misc_mem w i o e = let h = when_zero (funct3_of w) Fence i e in subst (Grouped w) (sym h.1) (o, h.0)
as_grouped system w i o e = grind (arith, nat_tests)

pub holds_decodes : (w : ℕ) (i : Instruction) → Holds w i → decoded w ≡ Ok i
holds_decodes w i h = grouped_decodes w i ((grouped w i).0 h)

decodes_grouped : (w : ℕ) (i : Instruction) → decoded w ≡ Ok i → Grouped w i
decodes_grouped w i e = let h = decoded_from w i e in as_grouped h.0 w i h.1 h.2

pub decodes_holds : (w : ℕ) (i : Instruction) → decoded w ≡ Ok i → Holds w i
decodes_holds w i e = (grouped w i).1 (decodes_grouped w i e)

grouped_encodes : (i : Instruction) (w : ℕ) → w < 2 ^ 32 → Grouped w i → (i ≡ Fence → ⊥) → encoded i ≡ Some w
grouped_encodes (Lui rd z) w lt h n = let t = into_u w lt in cc
grouped_encodes (Auipc rd z) w lt h n = let t = into_u w lt in cc
grouped_encodes (Jal rd z) w lt h n = let t = into_j w lt in cc
grouped_encodes (Jalr rd rs1 z) w lt h n = let t = into_i w lt in cc
grouped_encodes (Branch k rs1 rs2 z) w lt h n = let t = into_b w lt in cc
grouped_encodes (Load k rd rs1 z) w lt h n = let t = into_i w lt in cc
grouped_encodes (Store k rs1 rs2 z) w lt h n = let t = into_s w lt in cc
grouped_encodes (OpImm k rd rs1 z) w lt h n = let t = into_i w lt in cc
grouped_encodes (ShiftImm k rd rs1 shamt) w lt h n = let t = into_r w lt in cc
grouped_encodes (Op k rd rs1 rs2) w lt h n = let t = into_r w lt in cc
grouped_encodes Fence w lt h n = absurd (n refl)
grouped_encodes Ecall w lt h n = cc
grouped_encodes Ebreak w lt h n = cc

pub decoded_encodes : (i : Instruction) (w : ℕ) → w < 2 ^ 32 → decoded w ≡ Ok i → (i ≡ Fence → ⊥) → encoded i ≡ Some w
decoded_encodes i w lt e n = grouped_encodes i w lt (decodes_grouped w i e) n

encoded_grouped : (i : Instruction) (w : ℕ) → encoded i ≡ Some w → Grouped w i
encoded_grouped (Lui rd z) w e = from_u 0x37 rd w z (lit< tt) e
encoded_grouped (Auipc rd z) w e = from_u 0x17 rd w z (lit< tt) e
encoded_grouped (Jal rd z) w e = from_j 0x6F rd w z (lit< tt) e
encoded_grouped (Jalr rd rs1 z) w e = from_i 0x67 rd 0 rs1 w z (lit< tt) (lit< tt) e
encoded_grouped (Branch k rs1 rs2 z) w e = from_b 0x63 (branch3 k) rs1 rs2 w z (lit< tt) (search arith) e
encoded_grouped (Load k rd rs1 z) w e = from_i 0x03 rd (load3 k) rs1 w z (lit< tt) (search arith) e
encoded_grouped (Store k rs1 rs2 z) w e = from_s 0x23 (store3 k) rs1 rs2 w z (lit< tt) (search arith) e
encoded_grouped (OpImm k rd rs1 z) w e = from_i 0x13 rd (imm3 k) rs1 w z (lit< tt) (search arith) e
encoded_grouped (ShiftImm k rd rs1 shamt) w e = from_r 0x13 rd (shift3 k) rs1 shamt (shift7 k) w (lit< tt) (search arith) (search arith) e
encoded_grouped (Op k rd rs1 rs2) w e = from_r 0x33 rd (reg3 k) rs1 rs2 (reg7 k) w (lit< tt) (search arith) (search arith) e
encoded_grouped Fence w e = let h : 0x0FF0000F ≡ w = cc in rw (← h) (refl, refl)
encoded_grouped Ecall w e = cc
encoded_grouped Ebreak w e = cc

pub encoded_decodes : (i : Instruction) (w : ℕ) → encoded i ≡ Some w → decoded w ≡ Ok i
encoded_decodes i w e = grouped_decodes w i (encoded_grouped i w e)
