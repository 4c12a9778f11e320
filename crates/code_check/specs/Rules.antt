-- The rules that a word breaks: one line a rule. Assumes nothing.
--   n, p                 the number of words in the window, and the place of the word
--   next                 what the word after it decodes to
--   is_zero z             z is 0
--   lands n p z          z bytes on from the word at p there is a word of the window
--   stray_store i         i is a store through another register than x27
--   stray_jump i          i is a JALR through another register than x26, or with an offset
--   seizes i             i writes a dedicated register, and is neither a mask word nor a base word
--   lone_mask next i      i is a mask word, and next is not the base word of its pointer
--   stray_target n p i    i is a branch or a JAL to no word of the window
--   runs_off n p i        i stands last, and is not JAL, JALR or EBREAK
--   breaks_by r .. i      i breaks the rule r
--   breaks_at r .. d      the word that decodes to d breaks the rule r
--   only_decodes r        r is the rule that a word is RV32I
--   word_at ws p          what the word at p of the window ws decodes to
--   breaks r ws p        the word at p of the window ws breaks the rule r
--   rules                all rules, by their numbers
--   lowest_broken .. i    the first of them that i breaks
use Rattle.std.specs.Prelude.{ℕ, suc, ◌+◌, ◌*◌, ◌%◌, Bool, true, false, not, ◌&&◌, ◌||◌, List, [], ◌∷◌, length, ℤ, pos, negsuc, is_some, Ok, Err, Option, ◌==◌, nat_le, nat_lt, slice_index}
use Rattle.rv32i.specs.declared.instructions.Instruction.{Instruction}
use Rattle.rv32i.specs.Table.{first}
use Rattle.rv32i.specs.Decoded.{Decoding, decoded}
use Rattle.refusal.specs.declared.rules.Rule.{Rule}
use Rattle.refusal.specs.declared.rules.Rule.TheVariants.{Decodes, StoreBase, JumpBase, Dedicated, Paired, Target, Ending}
use Rattle.code_check.specs.declared.pointers.Pointer.TheVariants.{Code}
use Rattle.code_check.specs.Registers.{register, dedicated, may_store}
use Rattle.code_check.specs.Aspects.{written, store_base, jump_base, offset, leaves, mask_of, base_of, any, is_base_of}

abbrev pub is_zero : ℤ → Bool
is_zero (pos k) = k == 0
is_zero (negsuc k) = false

-- negsuc k is -(k + 1)
abbrev pub lands : (n p : ℕ) → ℤ → Bool
lands n p (pos k) = k % 4 == 0 && nat_lt (4 * p + k) (4 * n)
lands n p (negsuc k) = suc k % 4 == 0 && nat_le (suc k) (4 * p)

-- 2: a store has a base other than x27
abbrev pub stray_store : Instruction → Bool
stray_store i = any (λ r. not (may_store r)) (store_base i)

-- 3: a JALR has a base other than x26 or an offset other than 0
abbrev pub stray_jump : Instruction → Bool
stray_jump i = any (λ j. not (j.0 == register Code) || not (is_zero j.1)) (jump_base i)

-- 4: a dedicated register is written by neither a mask word nor a base word
abbrev pub seizes : Instruction → Bool
seizes i = any dedicated (written i) && (not (is_some (mask_of i)) && not (is_some (base_of i)))

-- 5: a mask word stands before another word than the base word of its pointer
abbrev pub lone_mask : Decoding → Instruction → Bool
lone_mask next i = any (λ q. not (is_base_of q next)) (mask_of i)

-- 6: a branch or a JAL goes to no word of the window
abbrev pub stray_target : (n p : ℕ) → Instruction → Bool
stray_target n p i = any (λ z. not (lands n p z)) (offset i)

-- 7: the last word is not JAL, JALR or EBREAK
abbrev pub runs_off : (n p : ℕ) → Instruction → Bool
runs_off n p i = p + 1 == n && not (leaves i)

abbrev pub breaks_by : Rule → (n p : ℕ) → Decoding → Instruction → Bool
breaks_by Decodes n p next i = false
breaks_by StoreBase n p next i = stray_store i
breaks_by JumpBase n p next i = stray_jump i
breaks_by Dedicated n p next i = seizes i
breaks_by Paired n p next i = lone_mask next i
breaks_by Target n p next i = stray_target n p i
breaks_by Ending n p next i = runs_off n p i

-- 1: a word is not RV32I, and then the other rules have nothing to say of it
abbrev pub only_decodes : Rule → Bool
only_decodes Decodes = true
only_decodes StoreBase = false
only_decodes JumpBase = false
only_decodes Dedicated = false
only_decodes Paired = false
only_decodes Target = false
only_decodes Ending = false

abbrev pub breaks_at : Rule → (n p : ℕ) → Decoding → Decoding → Bool
breaks_at r n p next (Ok i) = breaks_by r n p next i
breaks_at r n p next (Err c) = only_decodes r

-- past the window stands 0, which is not RV32I
abbrev pub word_at : List ℕ → ℕ → Decoding
word_at ws p = decoded (slice_index ws p)

abbrev pub breaks : Rule → List ℕ → ℕ → Bool
breaks r ws p = breaks_at r (length ws) p (word_at ws (p + 1)) (word_at ws p)

abbrev pub rules : List Rule
rules = Decodes ∷ StoreBase ∷ JumpBase ∷ Dedicated ∷ Paired ∷ Target ∷ Ending ∷ []

-- the first rule of the list that an instruction breaks
abbrev pub lowest_broken : (n p : ℕ) → Decoding → Instruction → Option Rule
lowest_broken n p next i = first (λ r. breaks_by r n p next i) rules
