-- Reports as text. Assumes nothing.
--   word r       the word for a reason
--   printed r    the text of a report
use Rattle.std.specs.Prelude.{ℕ, List, [], ◌∷◌, ◌++◌, codes}
use Rattle.refusal.specs.Spelled.{spelled_on}
use Rattle.yard_steps.specs.declared.reports.Reason.{Reason}
use Rattle.yard_steps.specs.declared.reports.Reason.TheVariants.{Host, Stopped, Finished, Spent}
use Rattle.yard_steps.specs.declared.reports.Report.{Report}

abbrev pub word : Reason → List ℕ
word Host = codes "host"
word Stopped = codes "stopped"
word Finished = codes "finished"
word Spent = codes "spent"

abbrev pub printed : Report → List ℕ
printed r = word r.reason ++ spelled_on (r.count ∷ r.domain ∷ r.pc ∷ r.first ∷ r.second ∷ [])
