-- What the code's values stand for in the model. Assumes nothing.
--   shape d      a domain
--   lead e       where a gate leads
--   number_of s  the number of a slot
--   callers ss   the numbers of a chain of slots, the current one first
--   next_in cs    the first of a list, if there is one
--   pointed r    r, with the instruction that it refers to
use Rattle.std.specs.Prelude.{ℕ, List, [], ◌∷◌, map, reverse, Some, None, Ok, Err, Option, Result}
use Rattle.std.specs.Borrow.{Bor}
use Rattle.rv32i.specs.declared.instructions.Instruction.{Instruction}
use Rattle.machine.specs.declared.stops.Stop.{Stop}
use Rattle.segment.specs.Rows.{row}
use Rattle.yard_steps.specs.Model.{Domain as DomainModel, Entry as EntryModel}
use Rattle.yard.specs.declared.domains.Domain.{Domain}
use Rattle.yard.specs.declared.entries.Entry.{Entry}
use Rattle.yard.specs.declared.slots.Slot.{Slot}

abbrev pub shape : Domain → DomainModel
shape d = record { registers = d.registers; pc = d.pc; state = d.state; base = d.base; m = d.m; segment = row d.segment }

abbrev pub lead : Option Entry → Option EntryModel
lead None = None
lead (Some e) = Some (record { domain = e.domain.number; pc = e.pc })

abbrev pub number_of : Slot → ℕ
number_of s = s.number

abbrev pub callers : List Slot → List ℕ
callers ss = reverse (map number_of ss)

abbrev pub next_in : List ℕ → Option ℕ
next_in [] = None
next_in (c ∷ cs) = Some c

abbrev pub pointed : Result (Bor Instruction) Stop → Result Instruction Stop
pointed (Ok i) = Ok i.now
pointed (Err s) = Err s
