-- What a command says, as plain data: a refusal by the numbers that tell it. Assumes nothing.
--   Said       what is said
--   plain a    what the answer a says
use Rattle.std.specs.Prelude.{ℕ, Bool, List, vec_items, Option, Result}
use Rattle.rv32i.specs.declared.causes.Cause.{Cause}
use Rattle.rv32i.specs.declared.instructions.Instruction.{Instruction}
use Rattle.refusal.specs.Told.{told_in}
use Rattle.yard_steps.specs.declared.reports.Report.{Report}
use Rattle.session.specs.declared.answers.Answer.{Answer}
use Rattle.session.specs.declared.answers.Answer.TheVariants as answer

pub data Said : Type 0 where
  Decoded : Result Instruction Cause → Said
  Encoded : Option ℕ → Said
  Peeked : List (Option ℕ) → Said
  May : Bool → Said
  Checked : Result (Unit {0}) (List ℕ) → Said
  Admitted : Result ℕ (List ℕ) → Said
  Opened : Result (Unit {0}) (List ℕ) → Said
  Called : Result (Unit {0}) (List ℕ) → Said
  Ran : Result Report (List ℕ) → Said
  Replied : Result (Unit {0}) (List ℕ) → Said
  Cut : Result (Unit {0}) (List ℕ) → Said
  Register : Result ℕ (List ℕ) → Said

abbrev pub plain : Answer → Said
plain (answer.Decoded r) = Decoded r
plain (answer.Encoded o) = Encoded o
plain (answer.Peeked v) = Peeked (vec_items v)
plain (answer.May b) = May b
plain (answer.Checked r) = Checked (told_in r)
plain (answer.Admitted r) = Admitted (told_in r)
plain (answer.Opened r) = Opened (told_in r)
plain (answer.Called r) = Called (told_in r)
plain (answer.Ran r) = Ran (told_in r)
plain (answer.Replied r) = Replied (told_in r)
plain (answer.Cut r) = Cut (told_in r)
plain (answer.Register r) = Register (told_in r)
