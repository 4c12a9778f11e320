-- Segments of memory, by base and bits, and the guard zone between them. Assumes nothing.
--   Row              the base of a segment, and the number of bits that count its bytes
--   end s            the address past the last byte of s
--   Sound s          s has 2 ^ 10 to 2 ^ 16 bytes, begins at a multiple of their number, and ends by 1,048,576
--   Inside s a       a is the address of a byte of s
--   Near s a         a is in s, or fewer than 2,048 bytes after it, or at most 2,048 bytes before it
--   apart s t        2,048 bytes or more lie between s and t
--   Confines s m     whatever is masked by m and then has the base of s brought in lies in s
--   Guards s t       what is near one of s and t is not in the other
--   Whole s a        an access of 1, 2 or 4 bytes at a, a multiple of their number, lies in s as a whole
use Rattle.std.specs.Prelude.{◌≡◌, ℕ, ◌+◌, ◌%◌, ◌^◌, ◌<◌, ◌≤◌, Bool, ◌&&◌, ◌||◌, ◌⊎◌, bit_and, bit_or, nat_le, nat_lt}

pub record Row : Type 0 where
  pub base : ℕ
  pub bits : ℕ

abbrev pub end : Row → ℕ
end s = s.base + 2 ^ s.bits

pub record Sound (s : Row) : Type 0 where
  pub large : 10 ≤ s.bits
  pub small : s.bits ≤ 16
  pub aligned : s.base % 2 ^ s.bits ≡ 0
  pub fits : end s ≤ 1048576

abbrev pub inside : Row → ℕ → Bool
inside s a = nat_le s.base a && nat_lt a (end s)

abbrev pub Inside : Row → ℕ → Type 0
Inside s a = (s.base ≤ a) × (a < end s)

abbrev pub Near : Row → ℕ → Type 0
Near s a = (s.base ≤ a + 2048) × (a < end s + 2048)

abbrev pub apart : Row → Row → Bool
apart s t = nat_le (end s + 2048) t.base || nat_le (end t + 2048) s.base

abbrev pub Confines : Row → ℕ → Type 0
Confines s m = (x : ℕ) → Inside s (bit_or (bit_and x m) s.base)

abbrev pub Guards : Row → Row → Type 0
Guards s t = (a : ℕ) → (Near s a → Inside t a → ⊥) × (Near t a → Inside s a → ⊥)

abbrev pub Whole : Row → ℕ → Type 0
Whole s a = (w j : ℕ) → (w ≡ 1) ⊎ ((w ≡ 2) ⊎ (w ≡ 4)) → a % w ≡ 0 → j < w → Inside s (a + j)
