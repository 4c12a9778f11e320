-- Windows of a code store. Assumes nothing.
--   s                 the words of a code store, of which the first 16,384 count; the code address a is in word a / 4
--   counted s         how many words count
--   bits_fit m         a window may have 2 ^ m bytes
--   WordOf b m a      a is the address of a word of the window of 2 ^ m bytes from b
--   code_mask_of m        the mask of the code pointer of such a window, or why there is none
--   Confines m k      whatever is masked by k and then has the base of such a window brought in is the address of a word of it
--   placed s b m      a window of 2 ^ m bytes may begin at b
--   words_from s b m   the words from b to b + 2 ^ m
--   windowed s b m    the words of the window of 2 ^ m bytes from b, or why there is none
--   viewed r          r, with the words that it refers to, and its refusal by the numbers that tell it
--   Framed s b m ws   what is known of the words ws of a window
use Rattle.std.specs.Prelude.{◌≡◌, ℕ, ◌+◌, ◌-◌, ◌*◌, ◌/◌, ◌%◌, ◌^◌, ◌<◌, ◌≤◌, min, Bool, cond, ◌&&◌, List, length, take, drop, Ok, Err, Result, ◌==◌, bit_and, bit_or, nat_le, slice_index}
use Rattle.std.specs.Borrow.{Bor}
use Rattle.refusal.specs.declared.refusals.Refusal.{Refusal}
use Rattle.refusal.specs.declared.refusals.Refusal.TheVariants.{WindowBits, WindowPlace}
use Rattle.refusal.specs.Told.{told}

abbrev pub counted : List ℕ → ℕ
counted s = min (length s) 16384

-- m is from 6 to 14
abbrev pub bits_fit : ℕ → Bool
bits_fit m = nat_le 6 m && nat_le m 14

abbrev pub code_mask_of : ℕ → Result ℕ (List ℕ)
code_mask_of m = cond (bits_fit m) (Ok (2 ^ m - 4)) (Err (told WindowBits))

abbrev pub WordOf : (b m a : ℕ) → Type 0
WordOf b m a = (b ≤ a) × (a < b + 2 ^ m) × (a % 4 ≡ 0)

abbrev pub Confines : (m k : ℕ) → Type 0
Confines m k = (b x : ℕ) → b % 2 ^ m ≡ 0 → WordOf b m (bit_or (bit_and x k) b)

-- the base is a multiple of the size, and the window ends in the store
abbrev pub placed : List ℕ → (b m : ℕ) → Bool
placed s b m = b % 2 ^ m == 0 && nat_le (b + 2 ^ m) (4 * counted s)

abbrev pub words_from : List ℕ → (b m : ℕ) → List ℕ
words_from s b m = take (2 ^ m / 4) (drop (b / 4) s)

abbrev pub windowed : List ℕ → (b m : ℕ) → Result (List ℕ) (List ℕ)
windowed s b m = cond (bits_fit m) (cond (placed s b m) (Ok (words_from s b m)) (Err (told WindowPlace))) (Err (told WindowBits))

abbrev pub viewed : Result (Bor (List ℕ)) Refusal → Result (List ℕ) (List ℕ)
viewed (Ok x) = Ok x.now
viewed (Err e) = Err (told e)

pub record Framed (s : List ℕ) (b m : ℕ) (ws : List ℕ) : Type 0 where
  pub low : 6 ≤ m
  pub high : m ≤ 14
  pub aligned : b % 2 ^ m ≡ 0
  pub inside : b + 2 ^ m ≤ 4 * length s
  pub counts : b + 2 ^ m ≤ 65536
  pub whole : 4 * length ws ≡ 2 ^ m
  pub words : (p : ℕ) → p < length ws → slice_index ws p ≡ slice_index s (b / 4 + p)
