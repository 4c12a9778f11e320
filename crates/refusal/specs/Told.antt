-- The numbers that tell a refusal. Assumes nothing.
--   rule_number r   the number of a rule
--   cause_told c    the number of the decoder's cause, or 0 where there is none
--   told x         the number of the refusal x, then its values
--   told_in r       r, with its refusal by the numbers that tell it
--   listed v       the values of v in a list
use Rattle.std.specs.Prelude.{ℕ, List, [], ◌∷◌, Some, None, Ok, Err, Option, Result}
use Rattle.rv32i.specs.declared.causes.Cause.{Cause}
use Rattle.rv32i.specs.Causes.{cause_number}
use Rattle.refusal.specs.declared.rules.Rule.{Rule}
use Rattle.refusal.specs.declared.rules.Rule.TheVariants.{Decodes, StoreBase, JumpBase, Dedicated, Paired, Target, Ending}
use Rattle.refusal.specs.declared.values.Values.{Values}
use Rattle.refusal.specs.declared.values.Values.TheVariants.{Empty, One, Two, Three}
use Rattle.refusal.specs.declared.refusals.Refusal.{Refusal}
use Rattle.refusal.specs.declared.refusals.Refusal.TheVariants.{Crowded, WindowBits, WindowPlace, SegmentBits, SegmentPlace, SegmentNear, RuleBroken}
use Rattle.refusal.specs.declared.refusals.Refusal.TheVariants.{NoGate, GateTaken, GateEmpty, NoDomain, EntryOffset, NoRegister}
use Rattle.refusal.specs.declared.refusals.Refusal.TheVariants.{HostPending, DomainActive, DomainStopped, NoneActive, MemorySize, NonePending, DeliveryEnd}
use Rattle.refusal.specs.declared.refusals.Refusal.TheVariants.{InputLength, OutputLength, InputWord, InputAuipc, InputRegister, InputTarget, ResultLength, BranchFar}

abbrev pub rule_number : Rule → ℕ
rule_number Decodes = 1
rule_number StoreBase = 2
rule_number JumpBase = 3
rule_number Dedicated = 4
rule_number Paired = 5
rule_number Target = 6
rule_number Ending = 7

abbrev pub cause_told : Option Cause → ℕ
cause_told None = 0
cause_told (Some c) = cause_number c

abbrev pub told : Refusal → List ℕ
told Crowded = 1 ∷ []
told WindowBits = 2 ∷ []
told WindowPlace = 3 ∷ []
told SegmentBits = 4 ∷ []
told SegmentPlace = 5 ∷ []
told SegmentNear = 6 ∷ []
told (RuleBroken place rule cause) = 7 ∷ place ∷ rule_number rule ∷ cause_told cause ∷ []
told NoGate = 8 ∷ []
told GateTaken = 9 ∷ []
told GateEmpty = 10 ∷ []
told NoDomain = 11 ∷ []
told EntryOffset = 12 ∷ []
told NoRegister = 13 ∷ []
told HostPending = 14 ∷ []
told DomainActive = 15 ∷ []
told DomainStopped = 16 ∷ []
told NoneActive = 17 ∷ []
told MemorySize = 18 ∷ []
told NonePending = 19 ∷ []
told DeliveryEnd = 20 ∷ []
told InputLength = 21 ∷ []
told OutputLength = 22 ∷ []
told (InputWord place cause) = 23 ∷ place ∷ cause_number cause ∷ []
told (InputAuipc place) = 24 ∷ place ∷ []
told (InputRegister place) = 25 ∷ place ∷ []
told (InputTarget place) = 26 ∷ place ∷ []
told ResultLength = 27 ∷ []
told (BranchFar place) = 28 ∷ place ∷ []

abbrev pub told_in : {T : Type 0} → Result T Refusal → Result T (List ℕ)
told_in (Ok x) = Ok x
told_in (Err e) = Err (told e)

abbrev pub listed : Values → List ℕ
listed Empty = []
listed (One a) = a ∷ []
listed (Two a b) = a ∷ b ∷ []
listed (Three a b c) = a ∷ b ∷ c ∷ []
