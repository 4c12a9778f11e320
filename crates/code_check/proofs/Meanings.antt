-- A word breaks a rule exactly where it does not keep it.
use Rattle.std.proofs.Common.{◌≡◌, ℕ, suc, ◌+◌, ◌-◌, ◌*◌, ◌/◌, ◌%◌, ◌<◌, ◌≤◌, Bool, true, false, not, ◌&&◌, ◌||◌, eqb, ltb, leb, List, length, ℤ, pos, negsuc, ◌+ℤ◌, is_some as option_is_some, Some, None, Ok, Err, Option, Result, sym, refl, ap, ◌∙◌, subst, inl, inr, ⊎_elim, arith}
use Rattle.std.proofs.lemmas.List.{get_or_past}
use Rattle.std.proofs.lemmas.Option.{none-some}
use Rattle.std.proofs.lemmas.Int.{ints}
use Rattle.std.proofs.lemmas.Bool.Decides.{nat_tests}
use Rattle.std.proofs.lemmas.Bool.{cases_lt, and_parts, and_cases, eqb-true, leb-true, ltb-true, eq-eqb, le-leb, lt-ltb, not-true, not-false, both_ways, and_from, or_parts, or_cases}
use Rattle.rv32i.specs.declared.operations.StoreOp.{StoreOp}
use Rattle.rv32i.specs.declared.operations.RegOp.{RegOp}
use Rattle.rv32i.specs.declared.operations.RegOp.TheVariants.{Add, Sub, Sll, Slt, Sltu, Xor, Srl, Sra, Or, And}
use Rattle.rv32i.specs.declared.instructions.Instruction.{Instruction}
use Rattle.rv32i.specs.declared.instructions.Instruction.TheVariants.{Lui, Auipc, Jal, Jalr, Branch, Load, Store, OpImm, ShiftImm, Op, Fence, Ecall, Ebreak}
use Rattle.rv32i.specs.Table.{first}
use Rattle.rv32i.specs.declared.causes.Cause.TheVariants.{Opcode}
use Rattle.rv32i.specs.Decoded.{Decoding, decoded}
use Rattle.refusal.specs.declared.rules.Rule.{Rule}
use Rattle.refusal.specs.declared.rules.Rule.TheVariants.{Decodes, StoreBase, JumpBase, Dedicated, Paired, Target, Ending}
use Rattle.code_check.specs.declared.pointers.Pointer.{Pointer}
use Rattle.code_check.specs.declared.pointers.Pointer.TheVariants.{Data, Code}
use Rattle.code_check.specs.Registers.{register, mask, base, dedicated}
use Rattle.code_check.specs.Aspects.{written, store_base, jump_base, offset, leaves, mask_op, base_op, mask_of, base_of, masks, bases, pointers, any, is_base_of}
use Rattle.code_check.specs.Rules.{lands, is_zero, breaks_at, breaks, word_at}
use Rattle.code_check.specs.Windows.{windowed}
use Rattle.code_check.specs.Verdicts.{Verdict, and_then, verdict, checked}
use Rattle.code_check.specs.Laws.{MaskWord, BaseWord, KeepsAt, Keeps, Meant, Gives}
use Rattle.code_check.proofs.Scan.{err_ok}
use Rattle.code_check.proofs.Framing.{framed}
use Rattle.code_check.proofs.Lawfully.{checked_at, verdict_accepted}

nothing : {A : Type 0} {B : Type 0} (x : A) → None ≡ Some x → B
nothing x e = absurd (none-some x e)

any_false : {A : Type 0} (f : A → Bool) (o : Option A) (x : A) → o ≡ Some x → any f o ≡ false → f x ≡ false
any_false f o x e h = sym (ap (any f) e) ∙ h

any_true : {A : Type 0} (f : A → Bool) (o : Option A) → any f o ≡ true → (x : A) × (o ≡ Some x) × (f x ≡ true)
any_true f None h = absurd (both_ways false refl h)
any_true f (Some x) h = (x, refl, h)

is_some : {A : Type 0} (o : Option A) → option_is_some o ≡ true → (x : A) × (o ≡ Some x)
is_some None h = absurd (both_ways false refl h)
is_some (Some x) h = (x, refl)

-- which instruction has a base
store_is : (i : Instruction) (r : ℕ) → store_base i ≡ Some r → (k : StoreOp) × (rs2 : ℕ) × (z : ℤ) × (i ≡ Store k r rs2 z)
store_is (Lui rd imm) r e = nothing r e
store_is (Auipc rd imm) r e = nothing r e
store_is (Jal rd z) r e = nothing r e
store_is (Jalr rd rs1 z) r e = nothing r e
store_is (Branch k rs1 rs2 z) r e = nothing r e
store_is (Load k rd rs1 z) r e = nothing r e
store_is (Store k rs1 rs2 z) r e = (k, rs2, z, ap (λ x. Store k x rs2 z) (let h : rs1 ≡ r = cc in h))
store_is (OpImm k rd rs1 z) r e = nothing r e
store_is (ShiftImm k rd rs1 shamt) r e = nothing r e
store_is (Op k rd rs1 rs2) r e = nothing r e
store_is Fence r e = nothing r e
store_is Ecall r e = nothing r e
store_is Ebreak r e = nothing r e

jump_is : (i : Instruction) (j : ℕ × ℤ) → jump_base i ≡ Some j → (rd : ℕ) × (i ≡ Jalr rd j.0 j.1)
jump_is (Lui rd imm) j e = nothing j e
jump_is (Auipc rd imm) j e = nothing j e
jump_is (Jal rd z) j e = nothing j e
jump_is (Jalr rd rs1 z) j e = (rd, let h : (rs1, z) ≡ j = cc in ap (λ (x : ℕ × ℤ). Jalr rd x.0 x.1) h)
jump_is (Branch k rs1 rs2 z) j e = nothing j e
jump_is (Load k rd rs1 z) j e = nothing j e
jump_is (Store k rs1 rs2 z) j e = nothing j e
jump_is (OpImm k rd rs1 z) j e = nothing j e
jump_is (ShiftImm k rd rs1 shamt) j e = nothing j e
jump_is (Op k rd rs1 rs2) j e = nothing j e
jump_is Fence j e = nothing j e
jump_is Ecall j e = nothing j e
jump_is Ebreak j e = nothing j e

-- mask words and base words
mask_and : (rd rs1 rs2 : ℕ) (q : Pointer) → first (masks rd rs2) pointers ≡ Some q → (rd ≡ register q) × (rs2 ≡ mask q)
mask_and rd rs1 rs2 q e = grind (arith, nat_tests)

base_or : (rd rs1 rs2 : ℕ) (q : Pointer) → first (bases rd rs1 rs2) pointers ≡ Some q → (rd ≡ register q) × (rs1 ≡ register q) × (rs2 ≡ base q)
base_or rd rs1 rs2 q e = grind (arith, nat_tests)

mask_op-MaskWord : (k : RegOp) (rd rs1 rs2 : ℕ) (q : Pointer) → mask_op k rd rs1 rs2 ≡ Some q → MaskWord q (Op k rd rs1 rs2)
mask_op-MaskWord Add rd rs1 rs2 q e = nothing q e
mask_op-MaskWord Sub rd rs1 rs2 q e = nothing q e
mask_op-MaskWord Sll rd rs1 rs2 q e = nothing q e
mask_op-MaskWord Slt rd rs1 rs2 q e = nothing q e
mask_op-MaskWord Sltu rd rs1 rs2 q e = nothing q e
mask_op-MaskWord Xor rd rs1 rs2 q e = nothing q e
mask_op-MaskWord Srl rd rs1 rs2 q e = nothing q e
mask_op-MaskWord Sra rd rs1 rs2 q e = nothing q e
mask_op-MaskWord Or rd rs1 rs2 q e = nothing q e
mask_op-MaskWord And rd rs1 rs2 q e = let h = mask_and rd rs1 rs2 q e in (rs1, rw (h.0, h.1) refl)

base_op-BaseWord : (k : RegOp) (rd rs1 rs2 : ℕ) (q : Pointer) → base_op k rd rs1 rs2 ≡ Some q → BaseWord q (Op k rd rs1 rs2)
base_op-BaseWord Add rd rs1 rs2 q e = nothing q e
base_op-BaseWord Sub rd rs1 rs2 q e = nothing q e
base_op-BaseWord Sll rd rs1 rs2 q e = nothing q e
base_op-BaseWord Slt rd rs1 rs2 q e = nothing q e
base_op-BaseWord Sltu rd rs1 rs2 q e = nothing q e
base_op-BaseWord Xor rd rs1 rs2 q e = nothing q e
base_op-BaseWord Srl rd rs1 rs2 q e = nothing q e
base_op-BaseWord Sra rd rs1 rs2 q e = nothing q e
base_op-BaseWord Or rd rs1 rs2 q e = let h = base_or rd rs1 rs2 q e in rw (h.0, h.1, h.2) refl
base_op-BaseWord And rd rs1 rs2 q e = nothing q e

mask_word : (i : Instruction) (q : Pointer) → mask_of i ≡ Some q → MaskWord q i
mask_word (Lui rd imm) q e = nothing q e
mask_word (Auipc rd imm) q e = nothing q e
mask_word (Jal rd z) q e = nothing q e
mask_word (Jalr rd rs1 z) q e = nothing q e
mask_word (Branch k rs1 rs2 z) q e = nothing q e
mask_word (Load k rd rs1 z) q e = nothing q e
mask_word (Store k rs1 rs2 z) q e = nothing q e
mask_word (OpImm k rd rs1 z) q e = nothing q e
mask_word (ShiftImm k rd rs1 shamt) q e = nothing q e
mask_word (Op k rd rs1 rs2) q e = mask_op-MaskWord k rd rs1 rs2 q e
mask_word Fence q e = nothing q e
mask_word Ecall q e = nothing q e
mask_word Ebreak q e = nothing q e

base_word : (i : Instruction) (q : Pointer) → base_of i ≡ Some q → BaseWord q i
base_word (Lui rd imm) q e = nothing q e
base_word (Auipc rd imm) q e = nothing q e
base_word (Jal rd z) q e = nothing q e
base_word (Jalr rd rs1 z) q e = nothing q e
base_word (Branch k rs1 rs2 z) q e = nothing q e
base_word (Load k rd rs1 z) q e = nothing q e
base_word (Store k rs1 rs2 z) q e = nothing q e
base_word (OpImm k rd rs1 z) q e = nothing q e
base_word (ShiftImm k rd rs1 shamt) q e = nothing q e
base_word (Op k rd rs1 rs2) q e = base_op-BaseWord k rd rs1 rs2 q e
base_word Fence q e = nothing q e
base_word Ecall q e = nothing q e
base_word Ebreak q e = nothing q e

word_mask : (i : Instruction) (q : Pointer) → MaskWord q i → mask_of i ≡ Some q
word_mask i Data h = ap mask_of h.1
word_mask i Code h = ap mask_of h.1

word_base : (i : Instruction) (q : Pointer) → BaseWord q i → base_of i ≡ Some q
word_base i Data h = ap base_of h
word_base i Code h = ap base_of h

same_pointer : (a b : Pointer) → register a ≡ register b → a ≡ b
same_pointer Data Data e = refl
same_pointer Data Code e = absurd (omega arith)
same_pointer Code Data e = absurd (omega arith)
same_pointer Code Code e = refl

base_decoded : (q : Pointer) (d : Decoding) → is_base_of q d ≡ true → (j : Instruction) × (d ≡ Ok j) × BaseWord q j
base_decoded q (Ok j) e =
    let a = any_true (λ b. eqb (register b) (register q)) (base_of j) e in
    let same : a.0 ≡ q = same_pointer a.0 q (eqb-true (register a.0) (register q) a.2) in
    (j, refl, base_word j q (subst (λ b. base_of j ≡ Some b) same a.1))
base_decoded q (Err c) e = absurd (both_ways false refl e)

decoded_base : (q : Pointer) (j : Instruction) → BaseWord q j → is_base_of q (Ok j) ≡ true
decoded_base Data j h = ap (λ x. is_base_of Data (Ok x)) h
decoded_base Code j h = ap (λ x. is_base_of Code (Ok x)) h

zero_is : (z : ℤ) → is_zero z ≡ true → z ≡ pos 0
zero_is (pos k) e = ap pos (eqb-true k 0 e)
zero_is (negsuc k) e = absurd (both_ways false refl e)

-- targets
landed : (n p : ℕ) (z : ℤ) → p < n → lands n p z ≡ true → (t : ℕ) × (t < n) × (pos (4 * p) +ℤ z ≡ pos (4 * t))
landed n p (pos k) lt e =
    let h = and_parts (eqb (k % 4) 0) (ltb (4 * p + k) (4 * n)) e in
    let whole = eqb-true (k % 4) 0 h.0 in
    let below = ltb-true (4 * p + k) (4 * n) h.1 in
    (p + k / 4, omega arith, omega (arith, ints))
landed n p (negsuc k) lt e =
    let h = and_parts (eqb (suc k % 4) 0) (leb (suc k) (4 * p)) e in
    let whole = eqb-true (suc k % 4) 0 h.0 in
    let below = leb-true (suc k) (4 * p) h.1 in
    (p - suc k / 4, omega arith, omega (arith, ints))

lands_at : (n p : ℕ) (z : ℤ) (t : ℕ) → p < n → t < n → pos (4 * p) +ℤ z ≡ pos (4 * t) → lands n p z ≡ true
lands_at n p (pos k) t lt l e = and_from (eqb (k % 4) 0) (ltb (4 * p + k) (4 * n)) (eq-eqb (k % 4) 0 (omega (arith, ints))) (lt-ltb (4 * p + k) (4 * n) (omega (arith, ints)))
lands_at n p (negsuc k) t lt l e = and_from (eqb (suc k % 4) 0) (leb (suc k) (4 * p)) (eq-eqb (suc k % 4) 0 (omega (arith, ints))) (le-leb (suc k) (4 * p) (omega (arith, ints)))

module _ (n p : ℕ) (lt : p < n) (next : Decoding) where
  -- what is known of a word is known of its instruction
  at : (r : Rule) (b : Bool) (d : Decoding) (i : Instruction) → d ≡ Ok i → breaks_at r n p next d ≡ b → breaks_at r n p next (Ok i) ≡ b
  at r b d i e h = sym (ap (breaks_at r n p next) e) ∙ h

  keeps : (r : Rule) (d : Decoding) → breaks_at r n p next d ≡ false → KeepsAt r n p next d
  keeps Decodes (Ok i) h = (i, refl)
  keeps Decodes (Err c) h = absurd (both_ways true h refl)
  keeps StoreBase d h = λ k rs1 rs2 z e. eqb-true rs1 27 (not-false (eqb rs1 27) (at StoreBase false d (Store k rs1 rs2 z) e h))
  keeps JumpBase d h = λ rd rs1 z e.
      let g = or_parts (not (eqb rs1 26)) (not (is_zero z)) (at JumpBase false d (Jalr rd rs1 z) e h) in
      (eqb-true rs1 26 (not-false (eqb rs1 26) g.0), zero_is z (not-false (is_zero z) g.1))
  keeps Dedicated d h = λ i rd e w low high.
      let g = at Dedicated false d i e h in
      let mine : any dedicated (written i) ≡ true = ap (any dedicated) w ∙ and_from (leb 22 rd) (leb rd 27) (le-leb 22 rd low) (le-leb rd 27 high) in
      ⊎_elim (λ x. absurd (both_ways (any dedicated (written i)) x mine))
      (λ x. ⊎_elim
      (λ y. let m = is_some (mask_of i) (not-false (option_is_some (mask_of i)) y) in (m.0, inl (mask_word i m.0 m.1)))
      (λ y. let m = is_some (base_of i) (not-false (option_is_some (base_of i)) y) in (m.0, inr (base_word i m.0 m.1)))
      (and_cases (not (option_is_some (mask_of i))) (not (option_is_some (base_of i))) x))
      (and_cases (any dedicated (written i)) (not (option_is_some (mask_of i)) && not (option_is_some (base_of i))) g)
  keeps Paired d h = λ i q e m.
      base_decoded q next (not-false (is_base_of q next) (any_false (λ a. not (is_base_of a next)) (mask_of i) q (word_mask i q m) (at Paired false d i e h)))
  keeps Target d h = λ i z e o. landed n p z lt (not-false (lands n p z) (any_false (λ a. not (lands n p a)) (offset i) z o (at Target false d i e h)))
  keeps Ending d h = λ i e last.
      ⊎_elim (λ x. absurd (both_ways (eqb (p + 1) n) x (eq-eqb (p + 1) n last))) (λ x. not-false (leaves i) x) (and_cases (eqb (p + 1) n) (not (leaves i)) (at Ending false d i e h))

  breaks_not : (r : Rule) (d : Decoding) → breaks_at r n p next d ≡ true → KeepsAt r n p next d → ⊥
  breaks_not Decodes (Ok i) h k = both_ways false refl h
  breaks_not Decodes (Err c) h k = err_ok c k.0 k.1
  breaks_not StoreBase (Ok i) h k =
      let a = any_true (λ r. not (eqb r 27)) (store_base i) h in
      let s = store_is i a.0 a.1 in
      both_ways (eqb a.0 27) (not-true (eqb a.0 27) a.2) (eq-eqb a.0 27 (k s.0 a.0 s.1 s.2 (ap (λ x. Ok x) s.3)))
  breaks_not JumpBase (Ok i) h k =
      let a = any_true (λ (j : ℕ × ℤ). not (eqb j.0 26) || not (is_zero j.1)) (jump_base i) h in
      let s = jump_is i a.0 a.1 in
      let g = k s.0 a.0.0 a.0.1 (ap (λ x. Ok x) s.1) in
      ⊎_elim (λ x. both_ways (eqb a.0.0 26) (not-true (eqb a.0.0 26) x) (eq-eqb a.0.0 26 g.0))
      (λ x. both_ways (is_zero a.0.1) (not-true (is_zero a.0.1) x) (ap is_zero g.1))
      (or_cases (not (eqb a.0.0 26)) (not (is_zero a.0.1)) a.2)
  breaks_not Dedicated (Ok i) h k =
      let g = and_parts (any dedicated (written i)) (not (option_is_some (mask_of i)) && not (option_is_some (base_of i))) h in
      let f = and_parts (not (option_is_some (mask_of i))) (not (option_is_some (base_of i))) g.1 in
      let a = any_true dedicated (written i) g.0 in
      let b = and_parts (leb 22 a.0) (leb a.0 27) a.2 in
      let w = k i a.0 refl a.1 (leb-true 22 a.0 b.0) (leb-true a.0 27 b.1) in
      ⊎_elim (λ x. both_ways (option_is_some (mask_of i)) (not-true (option_is_some (mask_of i)) f.0) (ap option_is_some (word_mask i w.0 x)))
      (λ x. both_ways (option_is_some (base_of i)) (not-true (option_is_some (base_of i)) f.1) (ap option_is_some (word_base i w.0 x)))
      w.1
  breaks_not Paired (Ok i) h k =
      let a = any_true (λ q. not (is_base_of q next)) (mask_of i) h in
      let j = k i a.0 refl (mask_word i a.0 a.1) in
      both_ways (is_base_of a.0 next) (not-true (is_base_of a.0 next) a.2) (ap (is_base_of a.0) j.1 ∙ decoded_base a.0 j.0 j.2)
  breaks_not Target (Ok i) h k =
      let a = any_true (λ z. not (lands n p z)) (offset i) h in
      let t = k i a.0 refl a.1 in
      both_ways (lands n p a.0) (not-true (lands n p a.0) a.2) (lands_at n p a.0 t.0 lt t.1 t.2)
  breaks_not Ending (Ok i) h k =
      let g = and_parts (eqb (p + 1) n) (not (leaves i)) h in
      both_ways (leaves i) (not-true (leaves i) g.1) (k i refl (eqb-true (p + 1) n g.0))
  breaks_not StoreBase (Err c) h k = both_ways false refl h
  breaks_not JumpBase (Err c) h k = both_ways false refl h
  breaks_not Dedicated (Err c) h k = both_ways false refl h
  breaks_not Paired (Err c) h k = both_ways false refl h
  breaks_not Target (Err c) h k = both_ways false refl h
  breaks_not Ending (Err c) h k = both_ways false refl h

pub kept : (ws : List ℕ) (r : Rule) (p : ℕ) → p < length ws → breaks r ws p ≡ false → Keeps r ws p
kept ws r p lt h = keeps (length ws) p lt (word_at ws (p + 1)) r (word_at ws p) h

pub broken : (ws : List ℕ) (r : Rule) (p : ℕ) → p < length ws → breaks r ws p ≡ true → Keeps r ws p → ⊥
broken ws r p lt h = breaks_not (length ws) p lt (word_at ws (p + 1)) r (word_at ws p) h

ends : (ws : List ℕ) (p : ℕ) (i : Instruction) → word_at ws p ≡ Ok i → p < length ws
ends ws p i e =
    ⊎_elim (λ l. l) (λ (g : length ws ≤ p). absurd (err_ok Opcode i (sym (ap decoded (get_or_past ws p 0 g)) ∙ e))) (cases_lt p (length ws))

pub meant : (ws : List ℕ) → Meant ws
meant ws = record { kept = kept ws; broken = broken ws; ends = ends ws }

has_window : (o : Result (List ℕ) (List ℕ)) → and_then o verdict ≡ Ok tt → (ws : List ℕ) × (o ≡ Ok ws)
has_window (Ok ws) e = (ws, refl)
has_window (Err a) e = absurd (err_ok a tt e)

pub gives : (s : List ℕ) (b m : ℕ) (v : Verdict) → v ≡ checked s b m → Gives s b m v
gives s b m v e o =
    let w = has_window (windowed s b m) (sym e ∙ o) in (
      w.0,
      record {
        window = w.1;
        framed = framed s b m w.0 w.1;
        keeps = λ p lt r. kept w.0 r p lt (verdict_accepted w.0 (sym (checked_at s b m v e w.0 w.1) ∙ o) p lt r);
      },
    )
