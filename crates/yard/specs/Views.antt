-- What a yard stands for in the model. Assumes nothing.
--   lead_to e     where a gate with the entry e leads
--   view y       a yard
--   Ready i y    what a step of the domain i rests on: it is not idle, and the chain has room for whoever is idle
--   without_active y   the yard with every active domain stopped, and an empty chain
--   shaped_in r   r, with its domain as it stands in the model, and its refusal by the numbers that tell it
--   afterwards   what a step leaves and how it ended the run, if it did
use Rattle.std.specs.Prelude.{◌≡◌, ℕ, ◌<◌, true, false, List, [], map, length, Ok, Err, Option, Result}
use Rattle.refusal.specs.declared.refusals.Refusal.{Refusal}
use Rattle.refusal.specs.Told.{told}
use Rattle.yard_steps.specs.declared.states.Event.TheVariants as event
use Rattle.yard_steps.specs.declared.reports.Ending.{Ending}
use Rattle.yard_steps.specs.States.{is_idle}
use Rattle.yard_steps.specs.Model.{Domain as DomainModel, Entry as EntryModel, Yard, at}
use Rattle.yard_steps.specs.Steps.{After, after}
use Rattle.yard.specs.declared.domains.Domain.{Domain}
use Rattle.yard.specs.declared.entries.Entry.{Entry}
use Rattle.yard.specs.declared.inners.Inner.{Inner}
use Rattle.yard.specs.Shapes.{shape, lead, callers}

abbrev pub lead_to : Entry → EntryModel
lead_to e = record { domain = e.domain.number; pc = e.pc }

abbrev pub view : Inner → Yard
view y = record {
  store = y.code.store.now;
  size = y.size;
  domains = map shape y.domains;
  count = y.count;
  gates = map lead y.gates;
  chain = callers y.chain.items;
  pending = y.pending;
}

pub record Ready (i : ℕ) (y : Yard) : Type 0 where
  pub awake : is_idle (at y i).state ≡ false
  pub room : (k : ℕ) → k < 8 → is_idle (at y k).state ≡ true → length y.chain < 8

abbrev pub afterwards : Yard → List ℕ → Option Ending → After
afterwards y bs e = record { yard = y; bytes = bs; ended = e }

abbrev pub without_active : Yard → Yard
without_active y = record { store = y.store; size = y.size; domains = map (after event.Cut) y.domains; count = y.count; gates = y.gates; chain = []; pending = false }

abbrev pub shaped_in : Result Domain Refusal → Result DomainModel (List ℕ)
shaped_in (Ok d) = Ok (shape d)
shaped_in (Err e) = Err (told e)
