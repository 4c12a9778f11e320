-- Two's complement, from a number to its bits and back, at every width of one bit or more.
use Rattle.std.proofs.Common.{◌≡◌, ℕ, ◌-◌, ◌*◌, ◌^◌, ◌<◌, true, ℤ, pos, negsuc, arith}
use Rattle.std.proofs.lemmas.Bool.Decides.{nat_tests}
use Rattle.rv32i.specs.Fields.{signed}
use Rattle.rv32i.specs.Encoded.{twos, short}

pub signed_twos : (n : ℕ) (z : ℤ) → 2 ^ n ≡ 2 * 2 ^ (n - 1) → short n z ≡ true → signed n (twos n z) ≡ z
signed_twos n (pos k) g h = grind (arith, nat_tests)
signed_twos n (negsuc k) g h = grind (arith, nat_tests)

pub twos_signed : (n x : ℕ) → 2 ^ n ≡ 2 * 2 ^ (n - 1) → x < 2 ^ n → (twos n (signed n x) ≡ x) × (short n (signed n x) ≡ true)
twos_signed n x g h = grind (arith, nat_tests)

pub twos_lt : (n : ℕ) (z : ℤ) → 2 ^ n ≡ 2 * 2 ^ (n - 1) → short n z ≡ true → twos n z < 2 ^ n
twos_lt n (pos k) g h = grind (arith, nat_tests)
twos_lt n (negsuc k) g h = grind (arith, nat_tests)
