-- An instruction has a word exactly where its registers and its immediate have their forms.
use Rattle.std.proofs.Common.{◌≡◌, ℕ, ◌%◌, ◌^◌, ◌<◌, Bool, true, false, ◌&&◌, eqb, ℤ, pos, negsuc, None, Decides, refl, arith}
use Rattle.std.proofs.lemmas.Int.{ints}
use Rattle.std.proofs.lemmas.Bool.Decides.{nat_tests, Decides-and}
use Rattle.rv32i.specs.declared.instructions.Instruction.{Instruction}
use Rattle.rv32i.specs.declared.instructions.Instruction.TheVariants.{Lui, Auipc, Jal, Jalr, Branch, Load, Store, OpImm, ShiftImm, Op, Fence, Ecall, Ebreak}
use Rattle.rv32i.specs.Encoded.{given, is_register, twos, short, encoded}
use Rattle.rv32i.specs.Laws.{Has12, HasB, HasU, HasJ, NoWordExactly}

register_decides : (r : ℕ) → Decides (is_register r) (r < 32)
register_decides r = (λ e. grind (arith, nat_tests), λ h. grind (arith, nat_tests))

decides_12 : (z : ℤ) → Decides (short 12 z) (Has12 z)
decides_12 (pos k) = (λ e. (grind (arith, nat_tests, ints), grind (arith, nat_tests, ints)), λ h. grind (arith, nat_tests, ints))
decides_12 (negsuc k) = (λ e. (grind (arith, nat_tests, ints), grind (arith, nat_tests, ints)), λ h. grind (arith, nat_tests, ints))

decides_b : (z : ℤ) → Decides (short 13 z && eqb (twos 13 z % 2) 0) (HasB z)
decides_b (pos k) = (λ e. (grind (arith, nat_tests, ints), grind (arith, nat_tests, ints), grind (arith, nat_tests)), λ h. grind (arith, nat_tests, ints))
decides_b (negsuc k) = (λ e. (grind (arith, nat_tests, ints), grind (arith, nat_tests, ints), grind (arith, nat_tests)), λ h. grind (arith, nat_tests, ints))

decides_u : (z : ℤ) → Decides (short 32 z && eqb (twos 32 z % 2 ^ 12) 0) (HasU z)
decides_u (pos k) = (λ e. (grind (arith, nat_tests, ints), grind (arith, nat_tests, ints), grind (arith, nat_tests)), λ h. grind (arith, nat_tests, ints))
decides_u (negsuc k) = (λ e. (grind (arith, nat_tests, ints), grind (arith, nat_tests, ints), grind (arith, nat_tests)), λ h. grind (arith, nat_tests, ints))

decides_j : (z : ℤ) → Decides (short 21 z && eqb (twos 21 z % 2) 0) (HasJ z)
decides_j (pos k) = (λ e. (grind (arith, nat_tests, ints), grind (arith, nat_tests, ints), grind (arith, nat_tests)), λ h. grind (arith, nat_tests, ints))
decides_j (negsuc k) = (λ e. (grind (arith, nat_tests, ints), grind (arith, nat_tests, ints), grind (arith, nat_tests)), λ h. grind (arith, nat_tests, ints))

decides_three : {P Q R : Type 0} (a b c : Bool) → Decides a P → Decides b Q → Decides c R → Decides (a && (b && c)) (P × Q × R)
decides_three a b c p q r =
    let d = Decides-and a (b && c) p (Decides-and b c q r) in
    (λ e. let h = d.0 e in (h.0, h.1.0, h.1.1), λ h. d.1 (h.0, (h.1, h.2)))

-- a word that is given under a test is none exactly where what the test decides does not hold
given_none : {P : Type 0} (b : Bool) (w : ℕ) → Decides b P → (given b w ≡ None → P → ⊥) × ((P → ⊥) → given b w ≡ None)
given_none true w d = (λ e. absurd (grind arith), λ n. absurd (n (d.0 refl)))
given_none false w d = (λ e p. let t = d.1 p in absurd (grind arith), λ n. refl)

none_i : (r s : ℕ) (z : ℤ) → Decides (is_register r && (is_register s && short 12 z)) ((r < 32) × (s < 32) × Has12 z)
none_i r s z = decides_three _ _ _ (register_decides r) (register_decides s) (decides_12 z)

none_r : (r s t : ℕ) → Decides (is_register r && (is_register s && is_register t)) ((r < 32) × (s < 32) × (t < 32))
none_r r s t = decides_three _ _ _ (register_decides r) (register_decides s) (register_decides t)

pub no_word : (i : Instruction) → NoWordExactly i (encoded i)
no_word (Lui rd z) = given_none _ _ (Decides-and _ _ (register_decides rd) (decides_u z))
no_word (Auipc rd z) = given_none _ _ (Decides-and _ _ (register_decides rd) (decides_u z))
no_word (Jal rd z) = given_none _ _ (Decides-and _ _ (register_decides rd) (decides_j z))
no_word (Jalr rd rs1 z) = given_none _ _ (none_i rd rs1 z)
no_word (Branch k rs1 rs2 z) = given_none _ _ (decides_three _ _ _ (register_decides rs1) (register_decides rs2) (decides_b z))
no_word (Load k rd rs1 z) = given_none _ _ (none_i rd rs1 z)
no_word (Store k rs1 rs2 z) = given_none _ _ (none_i rs1 rs2 z)
no_word (OpImm k rd rs1 z) = given_none _ _ (none_i rd rs1 z)
no_word (ShiftImm k rd rs1 shamt) = given_none _ _ (none_r rd rs1 shamt)
no_word (Op k rd rs1 rs2) = given_none _ _ (none_r rd rs1 rs2)
no_word Fence = (λ e. absurd (grind arith), λ n. absurd (n tt))
no_word Ecall = (λ e. absurd (grind arith), λ n. absurd (n tt))
no_word Ebreak = (λ e. absurd (grind arith), λ n. absurd (n tt))
