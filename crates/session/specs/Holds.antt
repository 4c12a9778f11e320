-- Who holds a pending call. Assumes nothing.
--   Vacant p o       where the outcome o gives a call out, none is held in p
--   holding b o      whether a call is held after the outcome o, given whether one was before it
--   reported o       the report of an outcome, its pending call put aside
use Rattle.std.specs.Prelude.{◌≡◌, Bool, true, false, is_some, Ok, Err, Option, Result}
use Rattle.refusal.specs.declared.refusals.Refusal.{Refusal}
use Rattle.yard_steps.specs.declared.reports.Report.{Report}
use Rattle.yard.specs.declared.pendings.Outcome.{Outcome}
use Rattle.yard.specs.declared.pendings.Outcome.TheVariants.{Ended, Asked}
use Rattle.yard.specs.declared.pendings.Pending.{Pending}

abbrev pub Vacant : Option Pending → Result Outcome Refusal → Type 0
Vacant p (Ok (Ended r)) = Unit {0}
Vacant p (Ok (Asked r q)) = is_some p ≡ false
Vacant p (Err e) = Unit {0}

abbrev pub holding : Bool → Result Outcome Refusal → Bool
holding b (Ok (Ended r)) = b
holding b (Ok (Asked r q)) = true
holding b (Err e) = b

abbrev pub reported : Result Outcome Refusal → Result Report Refusal
reported (Ok (Ended r)) = Ok r
reported (Ok (Asked r q)) = Ok r
reported (Err e) = Err e
