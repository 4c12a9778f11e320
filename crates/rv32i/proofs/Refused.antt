-- A refused word has the cause of the listing.
use Rattle.std.proofs.Common.{◌≡◌, ℕ, zero, suc, ◌<◌, Bool, true, false, cond, eqb, Some, None, Ok, Err, Option, sym, refl, ap, ◌∙◌, subst, arith}
use Rattle.std.proofs.lemmas.Bool.Decides.{nat_tests}
use Rattle.rv32i.specs.declared.causes.Cause.{Cause}
use Rattle.rv32i.specs.declared.causes.Cause.TheVariants.{Opcode, Funct3, Funct7, System}
use Rattle.rv32i.specs.declared.operations.ImmOp.{ImmOp}
use Rattle.rv32i.specs.declared.instructions.Instruction.{Instruction}
use Rattle.rv32i.specs.declared.instructions.Instruction.TheVariants.{Jalr, Fence}
use Rattle.rv32i.specs.Fields.{opcode_of, rd_of, funct3_of, rs1_of, funct7_of, imm_i}
use Rattle.rv32i.specs.Table.{Major, lui, auipc, jal, jalr, branch, load, store, op_imm, op, misc_mem, system}
use Rattle.rv32i.specs.Table.{major7, major_at, branch_at, load_at, store_at, imm_at, shift_at, reg_at}
use Rattle.rv32i.specs.Listing.{Holds}
use Rattle.rv32i.specs.Decoded.{decoded, decoded_as, decoded_by, named, op_imm_by}
use Rattle.rv32i.specs.Laws.{KnownOpcode, KnownFunct3, KnownFunct7, Caused, CauseOfTable}
use Rattle.rv32i.proofs.Rows.{some_not_none, major_from, named_from, named_none, decoded_at, decoded_from}
use Rattle.rv32i.proofs.Held.{holds_decodes, decodes_holds}

-- a word v that decodes is known by its opcode
known_opcode : (w v : ℕ) (i : Instruction) → decoded v ≡ Ok i → opcode_of v ≡ opcode_of w → KnownOpcode w
known_opcode w v i e o = (v, i, decodes_holds v i e, o)

-- what a word that holds an instruction decodes to, under the opcode of its group
held_as : (m : Major) (v : ℕ) (i : Instruction) → opcode_of v ≡ major7 m → Holds v i → decoded_as m v ≡ Ok i
held_as m v i o h = sym (decoded_at m v o) ∙ holds_decodes v i h

no_major : (f : ℕ) (m : Major) → major_at f ≡ None → f ≡ major7 m → ⊥
no_major f m n e = grind (arith, nat_tests)

no_opcode : (w : ℕ) → major_at (opcode_of w) ≡ None → Caused w Opcode
no_opcode w n k =
    let d = decoded_from k.0 k.1 (holds_decodes k.0 k.1 k.2) in
    no_major (opcode_of w) d.0 n (sym k.3 ∙ d.1)

-- a group whose funct3 names the operation, of which the word v₀ is one
module _ {A : Type 0} (at : ℕ → Option A) (make : ℕ → A → Instruction) (m : Major) (by_name : (v : ℕ) → decoded_as m v ≡ named Funct3 (at (funct3_of v)) (make v))
    (ordinary : major7 m ≡ 0x73 → ⊥) (v₀ : ℕ) (i₀ : Instruction) (there : decoded v₀ ≡ Ok i₀) (of-group : opcode_of v₀ ≡ major7 m) where
  unnamed_3 : (w : ℕ) → opcode_of w ≡ major7 m → at (funct3_of w) ≡ None → KnownFunct3 w → ⊥
  unnamed_3 w o n k =
      let e = held_as m k.0 k.1 (k.3 ∙ o) k.2 in
      let h = named_from Funct3 (at (funct3_of k.0)) (make k.0) k.1 (sym (by_name k.0) ∙ e) in
      some_not_none (at (funct3_of w)) h.0 (sym (ap at k.4) ∙ h.1) n

  caused_3 : (w : ℕ) (c : Cause) → opcode_of w ≡ major7 m → decoded_as m w ≡ Err c → Caused w c
  caused_3 w c o e =
      let n = named_none Funct3 c (at (funct3_of w)) (make w) (sym (by_name w) ∙ e) in
      subst (Caused w) n.1 (λ s. ordinary (sym o ∙ s), known_opcode w v₀ i₀ there (of-group ∙ sym o), unnamed_3 w o n.0)

-- funct3 is 0, as a name
abbrev only_zero : ℕ → Option ℕ
only_zero f = cond (eqb f 0) (Some f) None

zero_named : (b : Bool) (f : ℕ) (i : Instruction) → cond b (Ok i) (Err Funct3) ≡ named Funct3 (cond b (Some f) None) (λ _. i)
zero_named true f i = refl
zero_named false f i = refl

-- a word that decodes with the opcode o and the funct3 f
abbrev Sample : (o f : ℕ) → Type 0
Sample o f = (v : ℕ) × (i : Instruction) × (decoded v ≡ Ok i) × (opcode_of v ≡ o) × (funct3_of v ≡ f)

below_8 : (P : ℕ → Type 0) → P 0 → P 1 → P 2 → P 3 → P 4 → P 5 → P 6 → P 7 → (f : ℕ) → f < 8 → P f
below_8 P p0 p1 p2 p3 p4 p5 p6 p7 zero h = p0
below_8 P p0 p1 p2 p3 p4 p5 p6 p7 (suc zero) h = p1
below_8 P p0 p1 p2 p3 p4 p5 p6 p7 (suc (suc zero)) h = p2
below_8 P p0 p1 p2 p3 p4 p5 p6 p7 (suc (suc (suc zero))) h = p3
below_8 P p0 p1 p2 p3 p4 p5 p6 p7 (suc (suc (suc (suc zero)))) h = p4
below_8 P p0 p1 p2 p3 p4 p5 p6 p7 (suc (suc (suc (suc (suc zero))))) h = p5
below_8 P p0 p1 p2 p3 p4 p5 p6 p7 (suc (suc (suc (suc (suc (suc zero)))))) h = p6
below_8 P p0 p1 p2 p3 p4 p5 p6 p7 (suc (suc (suc (suc (suc (suc (suc zero))))))) h = p7
below_8 P p0 p1 p2 p3 p4 p5 p6 p7 (suc (suc (suc (suc (suc (suc (suc (suc f)))))))) h = absurd (omega arith)

sample_op : (f : ℕ) → f < 8 → Sample 0x33 f
sample_op =
    below_8 (Sample 0x33)
    (0x00000033, _, refl, refl, refl)
    (0x00001033, _, refl, refl, refl)
    (0x00002033, _, refl, refl, refl)
    (0x00003033, _, refl, refl, refl)
    (0x00004033, _, refl, refl, refl)
    (0x00005033, _, refl, refl, refl)
    (0x00006033, _, refl, refl, refl)
    (0x00007033, _, refl, refl, refl)

sample_op_imm : (f : ℕ) → f < 8 → Sample 0x13 f
sample_op_imm =
    below_8 (Sample 0x13)
    (0x00000013, _, refl, refl, refl)
    (0x00001013, _, refl, refl, refl)
    (0x00002013, _, refl, refl, refl)
    (0x00003013, _, refl, refl, refl)
    (0x00004013, _, refl, refl, refl)
    (0x00005013, _, refl, refl, refl)
    (0x00006013, _, refl, refl, refl)
    (0x00007013, _, refl, refl, refl)

sampled : (w o : ℕ) → Sample o (funct3_of w) → opcode_of w ≡ o → KnownFunct3 w
sampled w o s e = (s.0, s.1, decodes_holds s.0 s.1 s.2, s.3 ∙ sym e, s.4)

unnamed_op : (w : ℕ) → opcode_of w ≡ 0x33 → reg_at (funct3_of w) (funct7_of w) ≡ None → KnownFunct7 w → ⊥
unnamed_op w o n k =
    let e = held_as op k.0 k.1 (k.3 ∙ o) k.2 in
    let h = named_from Funct7 (reg_at (funct3_of k.0) (funct7_of k.0)) _ k.1 e in
    let s : reg_at (funct3_of w) (funct7_of w) ≡ reg_at (funct3_of k.0) (funct7_of k.0) = rw (k.4, k.5) refl in
    some_not_none _ h.0 (s ∙ h.1) n

caused_op : (w : ℕ) (c : Cause) → opcode_of w ≡ 0x33 → decoded_as op w ≡ Err c → Caused w c
caused_op w c o e =
    let n = named_none Funct7 c (reg_at (funct3_of w) (funct7_of w)) _ e in
    let f : funct3_of w < 8 = omega arith in
    subst (Caused w) n.1 (λ s. absurd (omega (arith, o, s)), sampled w 0x33 (sample_op (funct3_of w) f) o, unnamed_op w o n.0)

op_imm_none : (o : Option ImmOp) (w : ℕ) (c : Cause) → op_imm_by o w ≡ Err c → (o ≡ None) × (shift_at (funct3_of w) (funct7_of w) ≡ None) × (Funct7 ≡ c)
op_imm_none (Some k) w c e = absurd (grind arith)
op_imm_none None w c e = let n = named_none Funct7 c (shift_at (funct3_of w) (funct7_of w)) _ e in (refl, n.0, n.1)

unnamed_op_imm : (w : ℕ) → opcode_of w ≡ 0x13 → imm_at (funct3_of w) ≡ None → shift_at (funct3_of w) (funct7_of w) ≡ None → KnownFunct7 w → ⊥
unnamed_op_imm w o m n k =
    let e = held_as op_imm k.0 k.1 (k.3 ∙ o) k.2 in
    let s : imm_at (funct3_of k.0) ≡ None = ap imm_at k.4 ∙ m in
    let h = named_from Funct7 (shift_at (funct3_of k.0) (funct7_of k.0)) _ k.1 (sym (ap (λ a. op_imm_by a k.0) s) ∙ e) in
    let t : shift_at (funct3_of w) (funct7_of w) ≡ shift_at (funct3_of k.0) (funct7_of k.0) = rw (k.4, k.5) refl in
    some_not_none _ h.0 (t ∙ h.1) n

caused_op_imm : (w : ℕ) (c : Cause) → opcode_of w ≡ 0x13 → decoded_as op_imm w ≡ Err c → Caused w c
caused_op_imm w c o e =
    let n = op_imm_none (imm_at (funct3_of w)) w c e in
    let f : funct3_of w < 8 = omega arith in
    subst (Caused w) n.2 (λ s. absurd (omega (arith, o, s)), sampled w 0x13 (sample_op_imm (funct3_of w) f) o, unnamed_op_imm w o n.0 n.1)

system_none : (w : ℕ) (c : Cause) → decoded_as system w ≡ Err c → (System ≡ c) × (w ≡ 0x00000073 → ⊥) × (w ≡ 0x00100073 → ⊥)
system_none w c e = (grind (arith, nat_tests), λ h. grind (arith, nat_tests), λ h. grind (arith, nat_tests))

caused_as : (m : Major) (w : ℕ) (c : Cause) → opcode_of w ≡ major7 m → decoded_as m w ≡ Err c → Caused w c
caused_as lui w c o e = absurd (grind arith)
caused_as auipc w c o e = absurd (grind arith)
caused_as jal w c o e = absurd (grind arith)
caused_as jalr w c o e = caused_3 only_zero _ jalr (λ v. zero_named (eqb (funct3_of v) 0) (funct3_of v) (Jalr (rd_of v) (rs1_of v) (imm_i v))) (λ z. absurd (omega arith)) 0x00000067 _ refl refl w c o e
caused_as branch w c o e = caused_3 branch_at _ branch (λ v. refl) (λ z. absurd (omega arith)) 0x00000063 _ refl refl w c o e
caused_as load w c o e = caused_3 load_at _ load (λ v. refl) (λ z. absurd (omega arith)) 0x00000003 _ refl refl w c o e
caused_as store w c o e = caused_3 store_at _ store (λ v. refl) (λ z. absurd (omega arith)) 0x00000023 _ refl refl w c o e
caused_as op_imm w c o e = caused_op_imm w c o e
caused_as op w c o e = caused_op w c o e
caused_as misc_mem w c o e = caused_3 only_zero _ misc_mem (λ v. zero_named (eqb (funct3_of v) 0) (funct3_of v) Fence) (λ z. absurd (omega arith)) 0x0000000F _ refl refl w c o e
caused_as system w c o e = let n = system_none w c e in subst (Caused w) n.0 (o, n.1, n.2)

caused_by : (p : Option Major) (w : ℕ) (c : Cause) → major_at (opcode_of w) ≡ p → decoded_by p w ≡ Err c → Caused w c
caused_by (Some m) w c p e = caused_as m w c (major_from (opcode_of w) m p) e
caused_by None w c p e = let h : Opcode ≡ c = cc in subst (Caused w) h (no_opcode w p)

pub cause_of_table : (w : ℕ) → CauseOfTable w (decoded w)
cause_of_table w c e = caused_by (major_at (opcode_of w)) w c refl e
