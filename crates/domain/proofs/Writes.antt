-- The dedicated registers after a write.
use Rattle.std.proofs.Common.{◌≡◌, ℕ, ◌≤◌, false, eqb, ◌≢◌, List, length, get_or, set, refl, arith, length-set, get_or-set_other, get_or-set_same}
use Rattle.std.proofs.lemmas.Bool.{cond_both}
use Rattle.std.proofs.lemmas.Bool.Decides.{nat_tests}
use Rattle.code_check.specs.Registers.{dedicated}
use Rattle.machine.specs.Registers.{written}

pub written_length : (xs : List ℕ) (rd v : ℕ) → length (written xs rd v) ≡ length xs
written_length xs rd v = cond_both (eqb rd 0) xs (set xs rd v) (λ l. length l ≡ length xs) (λ _. refl) (λ _. length-set xs rd v)

pub written_other : (xs : List ℕ) (rd v r : ℕ) → r ≢ rd → get_or (written xs rd v) r 0 ≡ get_or xs r 0
written_other xs rd v r n = cond_both (eqb rd 0) xs (set xs rd v) (λ l. get_or l r 0 ≡ get_or xs r 0) (λ _. refl) (λ _. get_or-set_other xs rd r v 0 n)

pub apart : (rd r : ℕ) → dedicated rd ≡ false → 22 ≤ r → r ≤ 27 → r ≢ rd
apart rd r e a b same = grind (arith, nat_tests)

pub written_26 : (xs : List ℕ) (v : ℕ) → length xs ≡ 32 → get_or (written xs 26 v) 26 0 ≡ v
written_26 xs v l = get_or-set_same xs 26 v 0 (omega arith)

pub written_27 : (xs : List ℕ) (v : ℕ) → length xs ≡ 32 → get_or (written xs 27 v) 27 0 ≡ v
written_27 xs v l = get_or-set_same xs 27 v 0 (omega arith)
