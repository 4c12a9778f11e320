-- A step keeps a domain confined: one clause for each instruction.
use Rattle.std.proofs.Common.{◌≡◌, ℕ, ◌%◌, ◌^◌, ◌<◌, ◌≤◌, Bool, true, false, cond, eqb, ◌⊎◌, List, get_or, Some, Ok, sym, refl, ap, ◌∙◌, subst, inl, inr, ⊎_elim, arith}
use lib.Bits.{bit_and, bit_or}
use Rattle.std.proofs.lemmas.Nat.{pow_pos, and_le_r, and_mask, mod_below}
use Rattle.std.proofs.lemmas.Bool.{cases_Bool, cond_both}
use Rattle.std.proofs.lemmas.Bool.Decides.{nat_tests}
use Rattle.rv32i.specs.declared.operations.RegOp.{RegOp}
use Rattle.rv32i.specs.declared.operations.RegOp.TheVariants.{Or, And}
use Rattle.rv32i.specs.declared.instructions.Instruction.{Instruction}
use Rattle.rv32i.specs.declared.instructions.Instruction.TheVariants.{Lui, Auipc, Jal, Jalr, Branch, Load, Store, OpImm, ShiftImm, Op, Fence, Ecall, Ebreak}
use Rattle.refusal.specs.declared.rules.Rule.{Rule}
use Rattle.refusal.specs.declared.rules.Rule.TheVariants.{Decodes, StoreBase, JumpBase, Dedicated, Paired, Target, Ending}
use Rattle.segment.specs.Guards.{Inside, Near}
use Rattle.segment.proofs.Blocks.{or_base, or_quad, and_quad, power_quad}
use Rattle.code_check.specs.declared.pointers.Pointer.{Pointer}
use Rattle.code_check.specs.declared.pointers.Pointer.TheVariants.{Data, Code}
use Rattle.code_check.specs.Registers.{register, mask, base, dedicated}
use Rattle.code_check.specs.Aspects.{leaves, written as writes}
use Rattle.code_check.specs.Rules.{word_at}
use Rattle.code_check.specs.Laws.{Keeps, MaskWord, BaseWord}
use Rattle.machine.specs.declared.effects.Effect.TheVariants as effect
use Rattle.machine.specs.Registers.{written, value_of}
use Rattle.machine.specs.Arithmetic.{plus}
use Rattle.machine.specs.Branches.{is_taken}
use Rattle.machine.specs.Widths.{aligned}
use Rattle.machine.specs.Accesses.{load_width, store_width}
use Rattle.machine.specs.Executed.{next_of, even, linked, executed}
use Rattle.domain.specs.Confined.{Domain, Admitted, InCode, place_of, BaseAt, Pointing, Held, Confined, Fine, Confines, Enters}
use Rattle.domain.proofs.Writes.{written_length, written_other, apart, written_26, written_27}
use Rattle.domain.proofs.Places.{quad, place_lt, next_in, next_place, target_in, straight, near}
use Rattle.domain.proofs.Shorts.{short_store}

-- no base word, and no mask word
abbrev NoBase : Instruction → Type 0
NoBase i = (q : Pointer) → BaseWord q i → ⊥

abbrev NoMask : Instruction → Type 0
NoMask i = (q : Pointer) → MaskWord q i → ⊥

abbrev Other : Instruction → Type 0
Other i = (k : RegOp) (a b c : ℕ) → i ≡ Op k a b c → ⊥

same_ok : (x y : Instruction) → ◌≡◌ {A = Rattle.rv32i.specs.Decoded.Decoding} (Ok x) (Ok y) → x ≡ y
same_ok x y e = cc

pointer_dedicated : (q : Pointer) → dedicated (register q) ≡ true
pointer_dedicated Data = refl
pointer_dedicated Code = refl

dedicated_range : (r : ℕ) → dedicated r ≡ true → (22 ≤ r) × (r ≤ 27)
dedicated_range r e = (grind (arith, nat_tests), grind (arith, nat_tests))

op_rd : (k l : RegOp) (a b c x y z : ℕ) → Op k a b c ≡ Op l x y z → (k ≡ l) × (a ≡ x)
op_rd k l a b c x y z e = (cc, cc)

and_or : And ≡ Or → ⊥
and_or e = let z : ◌≡◌ {A = ℕ} 0 1 = cc in omega arith

not_both : (b : Bool) → b ≡ true → b ≡ false → ⊥
not_both b p q = let z : ◌≡◌ {A = ℕ} 0 1 = ap (λ x. cond x 0 1) (sym p ∙ q) in omega arith

-- with the pointers in their blocks
module _ (d : Domain) (xs : List ℕ) (pc : ℕ) (h : Confined d xs pc) where
  abbrev y : Held d xs pc
  y = h.held

  -- every other register may be written
  calm : (a : ℕ) → InCode d a → Pointing d xs → Confined d xs a
  calm a i b = record {
    place = i;
    held = record {
      long = y.long;
      code_base = y.code_base;
      code_mask = y.code_mask;
      data_base = y.data_base;
      data_mask = y.data_mask;
      code = inl b.0;
      store = inl b.1;
    };
  }

  pub entered : (a rd v : ℕ) → Pointing d xs → InCode d a → dedicated rd ≡ false → Confined d (written xs rd v) a × Pointing d (written xs rd v)
  entered a rd v b i e =
      let at : (r : ℕ) → 22 ≤ r → r ≤ 27 → get_or (written xs rd v) r 0 ≡ get_or xs r 0 = λ r lo hi. written_other xs rd v r (apart rd r e lo hi) in
      let j : InCode d (get_or (written xs rd v) 26 0) = subst (InCode d) (sym (at 26 (omega arith) (omega arith))) b.0 in
      let s : Inside d.segment (get_or (written xs rd v) 27 0) = subst (Inside d.segment) (sym (at 27 (omega arith) (omega arith))) b.1 in (
        record {
          place = i;
          held = record {
            long = written_length xs rd v ∙ y.long;
            code_base = at 22 (omega arith) (omega arith) ∙ y.code_base;
            code_mask = at 23 (omega arith) (omega arith) ∙ y.code_mask;
            data_base = at 24 (omega arith) (omega arith) ∙ y.data_base;
            data_mask = at 25 (omega arith) (omega arith) ∙ y.data_mask;
            code = inl j;
            store = inl s;
          };
        },
        (j, s),
      )

  put_data : (x a : ℕ) → InCode d a → InCode d (get_or xs 26 0) → Inside d.segment x ⊎ (BaseAt d Data a × (x < 2 ^ d.segment.bits)) → Confined d (written xs 27 x) a
  put_data x a i j k =
      let at : (r : ℕ) → r < 27 → get_or (written xs 27 x) r 0 ≡ get_or xs r 0 = λ r lt. written_other xs 27 x r (λ e. omega (arith, e)) in
      let new = written_27 xs x y.long in
      record {
        place = i;
        held = record {
          long = written_length xs 27 x ∙ y.long;
          code_base = at 22 (omega arith) ∙ y.code_base;
          code_mask = at 23 (omega arith) ∙ y.code_mask;
          data_base = at 24 (omega arith) ∙ y.data_base;
          data_mask = at 25 (omega arith) ∙ y.data_mask;
          code = inl (subst (InCode d) (sym (at 26 (omega arith))) j);
          store = ⊎_elim (λ p. inl (subst (Inside d.segment) (sym new) p)) (λ p. inr (p.0, subst (λ v. v < 2 ^ d.segment.bits) (sym new) p.1)) k;
        };
      }

  put_code : (x a : ℕ) → InCode d a → Inside d.segment (get_or xs 27 0) → InCode d x ⊎ (BaseAt d Code a × (x < 2 ^ d.m) × (x % 4 ≡ 0)) → Confined d (written xs 26 x) a
  put_code x a i j k =
      let at : (r : ℕ) → (r ≡ 26 → ⊥) → get_or (written xs 26 x) r 0 ≡ get_or xs r 0 = λ r n. written_other xs 26 x r n in
      let new = written_26 xs x y.long in
      record {
        place = i;
        held = record {
          long = written_length xs 26 x ∙ y.long;
          code_base = at 22 (λ e. omega (arith, e)) ∙ y.code_base;
          code_mask = at 23 (λ e. omega (arith, e)) ∙ y.code_mask;
          data_base = at 24 (λ e. omega (arith, e)) ∙ y.data_base;
          data_mask = at 25 (λ e. omega (arith, e)) ∙ y.data_mask;
          code = ⊎_elim (λ p. inl (subst (InCode d) (sym new) p)) (λ p. inr (p.0, subst (λ v. v < 2 ^ d.m) (sym new) p.1, subst (λ v. v % 4 ≡ 0) (sym new) p.2)) k;
          store = inl (subst (Inside d.segment) (sym (at 27 (λ e. omega (arith, e)))) j);
        };
      }

-- the word at pc is the instruction i
module _ (d : Domain) (ok : Admitted d) (xs : List ℕ) (pc : ℕ) (h : Confined d xs pc) (i : Instruction) (is : word_at d.words (place_of d pc) ≡ Ok i) where
  keep : (r : Rule) → Keeps r d.words (place_of d pc)
  keep r = ok.keeps (place_of d pc) (place_lt d ok pc h.place) r

  goes_on : leaves i ≡ false → InCode d (next_of pc)
  goes_on e = next_in d ok pc h.place (λ last. not_both (leaves i) (keep Ending i is last) e)

  -- the pointers lie in their blocks, unless the word at hand is a base word
  inside : NoBase i → Pointing d xs
  inside n = (
    ⊎_elim (λ p. p) (λ p. absurd (n Code (same_ok i p.0.0 (sym is ∙ p.0.1) ∙ p.0.2))) h.held.code,
    ⊎_elim (λ p. p) (λ p. absurd (n Data (same_ok i p.0.0 (sym is ∙ p.0.1) ∙ p.0.2))) h.held.store,
  )

  -- what is neither a mask word nor a base word writes no dedicated register
  spares : (rd : ℕ) → NoMask i → NoBase i → writes i ≡ Some rd → dedicated rd ≡ false
  spares rd m b w =
      ⊎_elim
      (λ e. let l = dedicated_range rd e in let k = keep Dedicated i rd is w l.0 l.1 in absurd (⊎_elim (λ p. m k.0 p) (λ p. b k.0 p) k.1))
      (λ e. e)
      (cases_Bool (dedicated rd))

  sets : (rd v : ℕ) → NoMask i → NoBase i → leaves i ≡ false → writes i ≡ Some rd → Confined d (written xs rd v) (next_of pc)
  sets rd v m b l w = (entered d xs pc h (next_of pc) rd v (inside b) (goes_on l) (spares rd m b w)).0

  jumps : (rd n t : ℕ) → NoMask i → NoBase i → writes i ≡ Some rd → InCode d t → Fine d xs pc (linked rd n t)
  jumps rd n t m b w j =
      cond_both (eqb (t % 4) 0) _ _ (Fine d xs pc) (λ _. (entered d xs pc h t rd n (inside b) j (spares rd m b w)).0) (λ e. absurd (let q = j.2 in grind (arith, nat_tests)))

  -- the masks
  masked_data : (v : ℕ) → bit_and v (get_or xs 25 0) < 2 ^ d.segment.bits
  masked_data v =
      let k = d.segment.bits in
      let e = ap (bit_and v) h.held.data_mask ∙ and_mask v k in
      let l = mod_below v (2 ^ k) (pow_pos k) in
      omega arith

  masked_code : (v : ℕ) → (bit_and v (get_or xs 23 0) < 2 ^ d.m) × (bit_and v (get_or xs 23 0) % 4 ≡ 0)
  masked_code v =
      let e = h.held.code_mask in
      let l = and_le_r v (get_or xs 23 0) in
      let b = pow_pos d.m in
      let q = power_quad d.m (let lo = ok.low in omega arith) in
      (omega arith, and_quad v (get_or xs 23 0) (omega arith))

  next_base : (q : Pointer) → MaskWord q i → BaseAt d q (next_of pc)
  next_base q m =
      let k = keep Paired i q is m in
      (k.0, ap (word_at d.words) (next_place d ok pc h.place) ∙ k.1, k.2)

  mask_no_base : (q : Pointer) → MaskWord q i → NoBase i
  mask_no_base q m r b = and_or (op_rd And Or _ _ _ _ _ _ (sym m.1 ∙ b)).0

  masks_at : (q : Pointer) → MaskWord q i → (v : ℕ) → Confined d (written xs (register q) (bit_and v (get_or xs (mask q) 0))) (next_of pc)
  masks_at Data m v =
      let b = inside (mask_no_base Data m) in
      put_data d xs pc h (bit_and v (get_or xs 25 0)) (next_of pc) (goes_on (ap leaves m.1)) b.0 (inr (next_base Data m, masked_data v))
  masks_at Code m v =
      let b = inside (mask_no_base Code m) in
      let l = masked_code v in
      put_code d xs pc h (bit_and v (get_or xs 23 0)) (next_of pc) (goes_on (ap leaves m.1)) b.1 (inr (next_base Code m, l.0, l.1))

  mask_effect : (q : Pointer) (rs : ℕ) → executed (Op And (register q) rs (mask q)) xs pc ≡ effect.Set (register q) (bit_and (value_of xs rs) (get_or xs (mask q) 0))
  mask_effect Data rs = refl
  mask_effect Code rs = refl

  masks : (q : Pointer) → MaskWord q i → Fine d xs pc (executed i xs pc)
  masks q m =
      subst (Fine d xs pc) (sym (ap (λ j. executed j xs pc) m.1 ∙ mask_effect q m.0)) (masks_at q m (value_of xs m.0))

  -- the bases
  based_data : Inside d.segment (bit_or (get_or xs 27 0) (get_or xs 24 0))
  based_data =
      let s = d.segment in
      subst (λ b. Inside s (bit_or (get_or xs 27 0) b)) (sym h.held.data_base)
      (or_base s.base s.bits (get_or xs 27 0) ok.sound.aligned (⊎_elim (λ p. inl (p.0, p.1)) (λ p. inr p.1) h.held.store))

  based_code : InCode d (bit_or (get_or xs 26 0) (get_or xs 22 0))
  based_code =
      let x = get_or xs 26 0 in
      let e : x % 4 ≡ 0 = ⊎_elim (λ p. p.2) (λ p. p.2) h.held.code in
      let l = or_base d.base d.m x ok.aligned (⊎_elim (λ p. inl (p.0, p.1)) (λ p. inr p.1) h.held.code) in
      subst (λ b. InCode d (bit_or x b)) (sym h.held.code_base) (l.0, l.1, or_quad d.base x (quad d ok) e)

  -- a base word of one pointer is none of the other
  other_code : BaseWord Data i → InCode d (get_or xs 26 0)
  other_code b =
      ⊎_elim (λ p. p) (λ p. let e = (op_rd Or Or _ _ _ _ _ _ (sym b ∙ same_ok i p.0.0 (sym is ∙ p.0.1) ∙ p.0.2)).1 in absurd (omega arith)) h.held.code

  other_data : BaseWord Code i → Inside d.segment (get_or xs 27 0)
  other_data b =
      ⊎_elim (λ p. p) (λ p. let e = (op_rd Or Or _ _ _ _ _ _ (sym b ∙ same_ok i p.0.0 (sym is ∙ p.0.1) ∙ p.0.2)).1 in absurd (omega arith)) h.held.store

  bases_at : (q : Pointer) → BaseWord q i → Confined d (written xs (register q) (bit_or (get_or xs (register q) 0) (get_or xs (base q) 0))) (next_of pc)
  bases_at Data b = put_data d xs pc h _ (next_of pc) (goes_on (ap leaves b)) (other_code b) (inl based_data)
  bases_at Code b = put_code d xs pc h _ (next_of pc) (goes_on (ap leaves b)) (other_data b) (inl based_code)

  base_effect : (q : Pointer) → executed (Op Or (register q) (register q) (base q)) xs pc ≡ effect.Set (register q) (bit_or (get_or xs (register q) 0) (get_or xs (base q) 0))
  base_effect Data = refl
  base_effect Code = refl

  bases : (q : Pointer) → BaseWord q i → Fine d xs pc (executed i xs pc)
  bases q b = subst (Fine d xs pc) (sym (ap (λ j. executed j xs pc) b ∙ base_effect q)) (bases_at q b)

  -- an instruction of another group is neither
  no_mask : Other i → NoMask i
  no_mask o q m = o And _ _ _ m.1

  no_base : Other i → NoBase i
  no_base o q b = o Or _ _ _ b

-- an operation on registers: a mask word, a base word, or neither
operates : (d : Domain) (ok : Admitted d) (xs : List ℕ) (pc : ℕ) (h : Confined d xs pc) (k : RegOp) (rd rs1 rs2 : ℕ) → word_at d.words (place_of d pc) ≡ Ok (Op k rd rs1 rs2) → Fine d xs pc (executed (Op k rd rs1 rs2) xs pc)
operates d ok xs pc h k rd rs1 rs2 is =
    let i = Op k rd rs1 rs2 in
    ⊎_elim
    (λ e.
    let l = dedicated_range rd e in
    let t = keep d ok xs pc h i is Dedicated i rd is refl l.0 l.1 in
    ⊎_elim (λ m. masks d ok xs pc h i is t.0 m) (λ b. bases d ok xs pc h i is t.0 b) t.1)
    (λ e.
    let b : NoBase i = λ q w. not_both (dedicated rd) (ap dedicated (op_rd k Or rd rs1 rs2 _ _ _ w).1 ∙ pointer_dedicated q) e in
    (entered d xs pc h (next_of pc) rd _ (inside d ok xs pc h i is b) (goes_on d ok xs pc h i is refl) e).0)
    (cases_Bool (dedicated rd))

fine : (d : Domain) (ok : Admitted d) (xs : List ℕ) (pc : ℕ) (h : Confined d xs pc) (i : Instruction) → word_at d.words (place_of d pc) ≡ Ok i → Fine d xs pc (executed i xs pc)
fine d ok xs pc h (Lui rd z) is =
    let o : Other (Lui rd z) = λ k a b c e. (let y : ◌≡◌ {A = ℕ} 0 1 = cc in omega arith) in
    sets d ok xs pc h (Lui rd z) is rd _ (no_mask d ok xs pc h (Lui rd z) is o) (no_base d ok xs pc h (Lui rd z) is o) refl refl
fine d ok xs pc h (Auipc rd z) is =
    let o : Other (Auipc rd z) = λ k a b c e. (let y : ◌≡◌ {A = ℕ} 0 1 = cc in omega arith) in
    sets d ok xs pc h (Auipc rd z) is rd _ (no_mask d ok xs pc h (Auipc rd z) is o) (no_base d ok xs pc h (Auipc rd z) is o) refl refl
fine d ok xs pc h (Jal rd z) is =
    let i = Jal rd z in
    let o : Other i = λ k a b c e. (let y : ◌≡◌ {A = ℕ} 0 1 = cc in omega arith) in
    let t = keep d ok xs pc h i is Target i z is refl in
    jumps d ok xs pc h i is rd (next_of pc) (plus pc z) (no_mask d ok xs pc h i is o) (no_base d ok xs pc h i is o) refl (target_in d ok pc t.0 z h.place t.1 t.2)
fine d ok xs pc h (Jalr rd rs1 z) is =
    let i = Jalr rd rs1 z in
    let o : Other i = λ k a b c e. (let y : ◌≡◌ {A = ℕ} 0 1 = cc in omega arith) in
    let b = no_base d ok xs pc h i is o in
    let t = keep d ok xs pc h i is JumpBase rd rs1 z is in
    let j = (inside d ok xs pc h i is b).0 in
    let same : even (plus (value_of xs rs1) z) ≡ get_or xs 26 0 = rw (t.0, t.1) (straight d ok (get_or xs 26 0) j) in
    jumps d ok xs pc h i is rd (next_of pc) _ (no_mask d ok xs pc h i is o) b refl (subst (InCode d) (sym same) j)
fine d ok xs pc h (Branch k rs1 rs2 z) is =
    let i = Branch k rs1 rs2 z in
    let o : Other i = λ k a b c e. (let y : ◌≡◌ {A = ℕ} 0 1 = cc in omega arith) in
    let b = inside d ok xs pc h i is (no_base d ok xs pc h i is o) in
    let t = keep d ok xs pc h i is Target i z is refl in
    let j = target_in d ok pc t.0 z h.place t.1 t.2 in
    cond_both (is_taken k (value_of xs rs1) (value_of xs rs2)) _ _ (Fine d xs pc)
    (λ _. cond_both (eqb (plus pc z % 4) 0) _ _ (Fine d xs pc) (λ _. calm d xs pc h (plus pc z) j b) (λ e. absurd (let q = j.2 in grind (arith, nat_tests))))
    (λ _. calm d xs pc h (next_of pc) (goes_on d ok xs pc h i is refl) b)
fine d ok xs pc h (Load k rd rs1 z) is =
    let i = Load k rd rs1 z in
    let o : Other i = λ k a b c e. (let y : ◌≡◌ {A = ℕ} 0 1 = cc in omega arith) in
    cond_both (aligned (load_width k) (plus (value_of xs rs1) z)) _ _ (Fine d xs pc)
    (λ _ v. sets d ok xs pc h i is rd v (no_mask d ok xs pc h i is o) (no_base d ok xs pc h i is o) refl refl)
    (λ _. tt)
fine d ok xs pc h (Store k rs1 rs2 z) is =
    let i = Store k rs1 rs2 z in
    let o : Other i = λ k a b c e. (let y : ◌≡◌ {A = ℕ} 0 1 = cc in omega arith) in
    let b = inside d ok xs pc h i is (no_base d ok xs pc h i is o) in
    let e = keep d ok xs pc h i is StoreBase k rs1 rs2 z is in
    let s = short_store (get_or d.words (place_of d pc) 0) rs1 rs2 k z is in
    let n : plus (value_of xs rs1) z < 1048576 → Near d.segment (plus (value_of xs rs1) z) = rw e (near d ok (get_or xs 27 0) z b.1 s) in
    cond_both (aligned (store_width k) (plus (value_of xs rs1) z)) _ _ (Fine d xs pc)
    (λ _. (n, calm d xs pc h (next_of pc) (goes_on d ok xs pc h i is refl) b))
    (λ _. tt)
fine d ok xs pc h (OpImm k rd rs1 z) is =
    let i = OpImm k rd rs1 z in
    let o : Other i = λ k a b c e. (let y : ◌≡◌ {A = ℕ} 0 1 = cc in omega arith) in
    sets d ok xs pc h i is rd _ (no_mask d ok xs pc h i is o) (no_base d ok xs pc h i is o) refl refl
fine d ok xs pc h (ShiftImm k rd rs1 n) is =
    let i = ShiftImm k rd rs1 n in
    let o : Other i = λ k a b c e. (let y : ◌≡◌ {A = ℕ} 0 1 = cc in omega arith) in
    sets d ok xs pc h i is rd _ (no_mask d ok xs pc h i is o) (no_base d ok xs pc h i is o) refl refl
fine d ok xs pc h (Op k rd rs1 rs2) is = operates d ok xs pc h k rd rs1 rs2 is
fine d ok xs pc h Fence is =
    let o : Other Fence = λ k a b c e. (let y : ◌≡◌ {A = ℕ} 0 1 = cc in omega arith) in
    calm d xs pc h (next_of pc) (goes_on d ok xs pc h Fence is refl) (inside d ok xs pc h Fence is (no_base d ok xs pc h Fence is o))
fine d ok xs pc h Ecall is =
    let o : Other Ecall = λ k a b c e. (let y : ◌≡◌ {A = ℕ} 0 1 = cc in omega arith) in
    let b = inside d ok xs pc h Ecall is (no_base d ok xs pc h Ecall is o) in
    (calm d xs pc h (next_of pc) (goes_on d ok xs pc h Ecall is refl) b, b)
fine d ok xs pc h Ebreak is = tt

pub confined : Confines
confined d xs pc ok h =
    let t = ok.keeps (place_of d pc) (place_lt d ok pc h.place) Decodes in
    (t.0, t.1, fine d ok xs pc h t.0 t.1)

pub enters : Enters
enters d xs pc a rd v h b i e = entered d xs pc h a rd v b i e
