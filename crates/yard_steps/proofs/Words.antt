-- The word that a domain executes.
use Rattle.std.proofs.Common.{◌≡◌, ℕ, ◌+◌, ◌*◌, ◌/◌, ◌%◌, ◌<◌, min, Bool, true, ◌&&◌, eqb, ltb, List, length, get_or, Ok, sym, refl, ap, ◌∙◌, arith}
use Rattle.std.proofs.lemmas.Bool.{cond_both}
use Rattle.std.proofs.lemmas.Bool.Decides.{nat_tests}
use Rattle.rv32i.specs.declared.operations.LoadOp.{LoadOp}
use Rattle.rv32i.specs.declared.operations.StoreOp.{StoreOp}
use Rattle.rv32i.specs.declared.instructions.Instruction.{Instruction}
use Rattle.rv32i.specs.declared.instructions.Instruction.TheVariants.{Lui, Auipc, Jal, Jalr, Branch, Load, Store, OpImm, ShiftImm, Op, Fence, Ecall, Ebreak}
use Rattle.rv32i.specs.Decoded.{decoded}
use Rattle.code_check.specs.Rules.{word_at}
use Rattle.code_check.specs.Windows.{counted}
use Rattle.machine.specs.declared.effects.Effect.{Effect}
use Rattle.machine.specs.declared.effects.Effect.TheVariants as effect
use Rattle.machine.specs.declared.stops.Stop.{Stop}
use Rattle.machine.specs.Registers.{value_of}
use Rattle.machine.specs.Arithmetic.{plus}
use Rattle.machine.specs.Branches.{is_taken}
use Rattle.machine.specs.Widths.{aligned}
use Rattle.machine.specs.Accesses.{load_width, store_width}
use Rattle.machine.specs.Executed.{linked, branched, loads, stores, executed}
use Rattle.domain.specs.Confined.{place_of}
use Rattle.domain.proofs.Places.{quad, place_lt, place_is}
use Rattle.yard_steps.specs.Model.{Yard, at}
use Rattle.yard_steps.specs.Steps.{found, fetched}
use Rattle.yard_steps.specs.Whole.{Whole, placed}

module _ (y : Yard) (W : Whole y) (c : ℕ) (lt : c < y.count) where
  -- the word at the pc is that of the window
  pub own_place : get_or y.store ((at y c).pc / 4) 0 ≡ get_or (placed y c).words (place_of (placed y c) (at y c).pc) 0
  own_place =
      let d = placed y c in
      let pc = (at y c).pc in
      let ok = W.admitted c lt in
      let h = (W.confined c lt).place in
      let q = quad d ok in
      let is = place_is d ok pc h in
      let here : pc / 4 ≡ d.base / 4 + place_of d pc = omega arith in
      ap (λ n. get_or y.store n 0) here ∙ sym ((W.framed c lt).words (place_of d pc) (place_lt d ok pc h))

  -- so it is what is fetched
  pub own_word : (i : Instruction) → word_at (placed y c).words (place_of (placed y c) (at y c).pc) ≡ Ok i → fetched y.store (at y c).pc ≡ Ok i
  own_word i e =
      let pc = (at y c).pc in
      let h = (W.confined c lt).place in
      let fr = W.framed c lt in
      let low = h.2 in
      let top = h.1 in
      let u = fr.inside in
      let v = fr.counts in
      let test : (eqb (pc % 4) 0 && ltb (pc / 4) (counted y.store)) ≡ true = fetch_test pc (length y.store) low (omega arith) (omega arith) in
      rw test (ap (λ x. found (get_or y.store (pc / 4) 0) x) (ap decoded own_place ∙ e))
    where
      fetch_test : (pc n : ℕ) → pc % 4 ≡ 0 → pc < 4 * n → pc < 65536 → (eqb (pc % 4) 0 && ltb (pc / 4) (min n 16384)) ≡ true
      fetch_test pc n a b d = grind (arith, nat_tests)

-- only an ECALL calls
abbrev Uncalled : Effect → Type 0
Uncalled e = e ≡ effect.Call → ⊥

set_not : (rd v : ℕ) → Uncalled (effect.Set rd v)
set_not rd v e = let z : ◌≡◌ {A = ℕ} 0 1 = cc in omega arith

stop_not : (s : Stop) → Uncalled (effect.Stop s)
stop_not s e = let z : ◌≡◌ {A = ℕ} 0 1 = cc in omega arith

next_not : Uncalled effect.Next
next_not e = let z : ◌≡◌ {A = ℕ} 0 1 = cc in omega arith

linked_not : (rd n t : ℕ) → Uncalled (linked rd n t)
linked_not rd n t = cond_both (eqb (t % 4) 0) _ _ Uncalled (λ _ e. (let z : ◌≡◌ {A = ℕ} 0 1 = cc in omega arith)) (λ _. stop_not _)

branched_not : (b : Bool) (t : ℕ) → Uncalled (branched b t)
branched_not b t =
    cond_both b _ _ Uncalled (λ _. cond_both (eqb (t % 4) 0) _ _ Uncalled (λ _ e. (let z : ◌≡◌ {A = ℕ} 0 1 = cc in omega arith)) (λ _. stop_not _)) (λ _. next_not)

loads_not : (op : LoadOp) (rd a : ℕ) → Uncalled (loads op rd a)
loads_not op rd a = cond_both (aligned (load_width op) a) _ _ Uncalled (λ _ e. (let z : ◌≡◌ {A = ℕ} 0 1 = cc in omega arith)) (λ _. stop_not _)

stores_not : (op : StoreOp) (a v : ℕ) → Uncalled (stores op a v)
stores_not op a v = cond_both (aligned (store_width op) a) _ _ Uncalled (λ _ e. (let z : ◌≡◌ {A = ℕ} 0 1 = cc in omega arith)) (λ _. stop_not _)

pub call_word : (i : Instruction) (xs : List ℕ) (pc : ℕ) → executed i xs pc ≡ effect.Call → i ≡ Ecall
call_word (Lui rd imm) xs pc e = absurd (set_not _ _ e)
call_word (Auipc rd imm) xs pc e = absurd (set_not _ _ e)
call_word (Jal rd z) xs pc e = absurd (linked_not _ _ _ e)
call_word (Jalr rd rs1 z) xs pc e = absurd (linked_not _ _ _ e)
call_word (Branch k rs1 rs2 z) xs pc e = absurd (branched_not (is_taken k (value_of xs rs1) (value_of xs rs2)) (plus pc z) e)
call_word (Load k rd rs1 z) xs pc e = absurd (loads_not _ _ _ e)
call_word (Store k rs1 rs2 z) xs pc e = absurd (stores_not _ _ _ e)
call_word (OpImm k rd rs1 z) xs pc e = absurd (set_not _ _ e)
call_word (ShiftImm k rd rs1 n) xs pc e = absurd (set_not _ _ e)
call_word (Op k rd rs1 rs2) xs pc e = absurd (set_not _ _ e)
call_word Fence xs pc e = absurd (next_not e)
call_word Ecall xs pc e = refl
call_word Ebreak xs pc e = absurd (stop_not _ e)
