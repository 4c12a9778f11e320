-- What a yard's calls answer, in the words of the model. Assumes nothing.
--   seen y              a yard
--   GoesOn y            a step can be made: some domain is on the chain, and no host call is pending
--   counted e n         the report of the ending e after n steps
--   ran_to y bs r        a run that left y and bs and reports r
--   report_in o          the report of an outcome
--   answered_by y bs r   what a run answered, and what it left
--   Tokened r           a pending call is given out exactly where the run ended at a host call
--   told_back r          what a reply answered, its refusal by the numbers that tell it
use Rattle.std.specs.Prelude.{◌≡◌, ℕ, ◌<◌, false, List, length, Ok, Err, Result}
use Rattle.refusal.specs.declared.refusals.Refusal.{Refusal}
use Rattle.refusal.specs.Told.{told}
use Rattle.yard_steps.specs.declared.reports.Ending.{Ending}
use Rattle.yard_steps.specs.declared.reports.Report.{Report}
use Rattle.yard_steps.specs.declared.reports.Reason.TheVariants.{Host}
use Rattle.yard_steps.specs.Model.{Yard as Plain}
use Rattle.yard_steps.specs.Steps.{Ran}
use Rattle.yard_steps.specs.Calls.{Running}
use Rattle.yard.specs.declared.pendings.Outcome.{Outcome}
use Rattle.yard.specs.declared.pendings.Outcome.TheVariants.{Ended, Asked}
use Rattle.yard.specs.declared.pendings.Pending.{Pending}
use Rattle.yard.specs.declared.yards.Yard.{Yard}
use Rattle.yard.specs.Views.{view}

abbrev pub seen : Yard → Plain
seen y = view y.inner

pub record GoesOn (y : Plain) : Type 0 where
  pub some : 0 < length y.chain
  pub free : y.pending ≡ false

abbrev pub counted : Ending → ℕ → Report
counted e n = record { reason = e.reason; count = n; domain = e.domain; pc = e.pc; first = e.first; second = e.second }

abbrev pub ran_to : Plain → List ℕ → Report → Ran
ran_to y bs r = record { report = r; yard = y; bytes = bs }

abbrev pub report_in : Outcome → Report
report_in (Ended r) = r
report_in (Asked r p) = r

abbrev pub answered_by : Plain → List ℕ → Result Outcome Refusal → Running
answered_by y bs (Ok o) = record { yard = y; bytes = bs; answer = Ok (report_in o) }
answered_by y bs (Err e) = record { yard = y; bytes = bs; answer = Err (told e) }

abbrev pub Tokened : Result Outcome Refusal → Type 0
Tokened (Ok (Ended r)) = r.reason ≡ Host → ⊥
Tokened (Ok (Asked r p)) = r.reason ≡ Host
Tokened (Err e) = Unit {0}

abbrev pub told_back : Result (Unit {0}) (Refusal × Pending) → Result (Unit {0}) (List ℕ)
told_back (Ok u) = Ok u
told_back (Err (e, p)) = Err (told e)
