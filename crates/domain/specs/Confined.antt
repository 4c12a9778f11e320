-- What keeps a domain in its window and its segment. Assumes nothing.
--   Domain             the words of its window, the window's base and bits, and its data segment
--   Admitted d         the window is safe, and the segment is sound
--   InCode d a         a is the address of a word of the window
--   place_of d a        the number of that word
--   BaseAt d q a       the word at a is the base word of the pointer q
--   Pointing d xs      x26 and x27 lie in their blocks
--   Held d xs pc       x22 to x25 hold their values; x26 and x27 lie in their blocks, or are masked and the word at pc is their base word
--   Confined d xs pc   what holds of a domain between two words, where its registers are xs
--   started xs b m s   the registers of a domain with the window from b and the segment s, or why it has none
--   Fine d xs pc e     an effect e of the word at pc keeps the domain confined, stores near its segment, and is no stray jump
use Rattle.std.specs.Prelude.{◌≡◌, ℕ, ◌+◌, ◌-◌, ◌*◌, ◌/◌, ◌%◌, ◌^◌, ◌<◌, ◌≤◌, false, ◌⊎◌, List, length, Ok, Result, slice_index, slice_index_or, slice_set}
use Rattle.rv32i.specs.declared.instructions.Instruction.{Instruction}
use Rattle.refusal.specs.declared.rules.Rule.{Rule}
use Rattle.segment.specs.Guards.{Row, Sound, Inside, Near}
use Rattle.code_check.specs.declared.pointers.Pointer.{Pointer}
use Rattle.code_check.specs.declared.pointers.Pointer.TheVariants.{Data, Code}
use Rattle.code_check.specs.Registers.{dedicated}
use Rattle.code_check.specs.Rules.{word_at}
use Rattle.code_check.specs.Verdicts.{and_then}
use Rattle.code_check.specs.Windows.{code_mask_of}
use Rattle.code_check.specs.Laws.{Keeps, BaseWord}
use Rattle.machine.specs.declared.effects.Effect.{Effect}
use Rattle.machine.specs.declared.effects.Effect.TheVariants as effect
use Rattle.machine.specs.declared.stops.Stop.{Stop}
use Rattle.machine.specs.declared.stops.Stop.TheVariants as stop
use Rattle.machine.specs.Registers.{written}
use Rattle.machine.specs.Executed.{next_of, executed}

pub record Domain : Type 0 where
  pub words : List ℕ
  pub base : ℕ
  pub m : ℕ
  pub segment : Row

pub record Admitted (d : Domain) : Type 0 where
  pub keeps : (p : ℕ) → p < length d.words → (r : Rule) → Keeps r d.words p
  pub low : 6 ≤ d.m
  pub high : d.m ≤ 14
  pub whole : 4 * length d.words ≡ 2 ^ d.m
  pub aligned : d.base % 2 ^ d.m ≡ 0
  pub counts : d.base + 2 ^ d.m ≤ 65536
  pub sound : Sound d.segment

abbrev pub InCode : Domain → ℕ → Type 0
InCode d a = (d.base ≤ a) × (a < d.base + 2 ^ d.m) × (a % 4 ≡ 0)

abbrev pub place_of : Domain → ℕ → ℕ
place_of d a = (a - d.base) / 4

abbrev pub BaseAt : Domain → Pointer → ℕ → Type 0
BaseAt d q a = (i : Instruction) × (word_at d.words (place_of d a) ≡ Ok i) × BaseWord q i

abbrev pub Pointing : Domain → List ℕ → Type 0
Pointing d xs = InCode d (slice_index xs 26) × Inside d.segment (slice_index xs 27)

pub record Held (d : Domain) (xs : List ℕ) (pc : ℕ) : Type 0 where
  pub long : length xs ≡ 32
  pub code_base : slice_index_or xs 22 0 ≡ d.base
  pub code_mask : slice_index_or xs 23 0 ≡ 2 ^ d.m - 4
  pub data_base : slice_index_or xs 24 0 ≡ d.segment.base
  pub data_mask : slice_index_or xs 25 0 ≡ 2 ^ d.segment.bits - 1
  pub code : InCode d (slice_index xs 26) ⊎ (BaseAt d Code pc × (slice_index xs 26 < 2 ^ d.m) × (slice_index xs 26 % 4 ≡ 0))
  pub store : Inside d.segment (slice_index xs 27) ⊎ (BaseAt d Data pc × (slice_index xs 27 < 2 ^ d.segment.bits))

pub record Confined (d : Domain) (xs : List ℕ) (pc : ℕ) : Type 0 where
  pub place : InCode d pc
  pub held : Held d xs pc

-- a stop that the check rules out: a word past the store, a word that is not RV32I, a jump to no multiple of 4
abbrev pub Possible : Stop → Type 0
Possible (stop.Fetch pc) = ⊥
Possible (stop.Illegal word) = ⊥
Possible (stop.Target target) = ⊥
Possible (stop.Misaligned address) = Unit {0}
Possible (stop.Unmapped address) = Unit {0}
Possible (stop.NoGate gate) = Unit {0}
Possible (stop.Forbidden gate) = Unit {0}
Possible (stop.Busy gate) = Unit {0}
Possible stop.Break = Unit {0}

abbrev pub Fine : Domain → List ℕ → ℕ → Effect → Type 0
Fine d xs pc (effect.Set rd v) = Confined d (written xs rd v) (next_of pc)
Fine d xs pc (effect.Read op rd a) = (v : ℕ) → Confined d (written xs rd v) (next_of pc)
Fine d xs pc (effect.Write a x) = (a < 1048576 → Near d.segment a) × Confined d xs (next_of pc)
Fine d xs pc (effect.Link rd n t) = Confined d (written xs rd n) t
Fine d xs pc (effect.Jump t) = Confined d xs t
Fine d xs pc effect.Next = Confined d xs (next_of pc)
Fine d xs pc effect.Call = Confined d xs (next_of pc) × Pointing d xs
Fine d xs pc (effect.Stop s) = Possible s

-- the registers that a domain begins with: x0 is 0, x22 to x27 are dedicated, the others are as given
abbrev pub with_dedicated : List ℕ → (b k : ℕ) → Row → List ℕ
with_dedicated xs b k s =
    slice_set (slice_set (slice_set (slice_set (slice_set (slice_set (slice_set xs 0 0) 22 b) 23 k) 24 s.base) 25 (2 ^ s.bits - 1)) 26 b) 27 s.base

abbrev pub started : List ℕ → (b m : ℕ) → Row → Result (List ℕ) (List ℕ)
started xs b m s = and_then (code_mask_of m) (λ k. Ok (with_dedicated xs b k s))

-- what begins so is confined, at the first word of its window
abbrev pub Starts : Type 0
Starts =
    (d : Domain) (xs ys : List ℕ) → Admitted d → length xs ≡ 32 → started xs d.base d.m d.segment ≡ Ok ys →
    Confined d ys d.base × Pointing d ys

-- what a domain does keeps it confined
abbrev pub Confines : Type 0
Confines =
    (d : Domain) (xs : List ℕ) (pc : ℕ) → Admitted d → Confined d xs pc →
    (i : Instruction) × (word_at d.words (place_of d pc) ≡ Ok i) × Fine d xs pc (executed i xs pc)

-- a domain whose pointers lie in their blocks may go on at any word of its window, with any other register written
abbrev pub Enters : Type 0
Enters =
    (d : Domain) (xs : List ℕ) (pc a rd v : ℕ) → Confined d xs pc → Pointing d xs → InCode d a → dedicated rd ≡ false →
    Confined d (written xs rd v) a × Pointing d (written xs rd v)
