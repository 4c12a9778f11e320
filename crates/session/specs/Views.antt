-- The code's values in the words of the model. Assumes nothing.
--   state_of m p code under y   a memory, a policy and a yard, beside a code store
--   view s code under          a session, beside its code store
--   spoken xs                  what the answers xs say
--   told p code under cs        what a performance has said so far, and what the commands cs say after it
--   or_yard o s                 the state s, or that under a new yard for memories of so many bytes
--   following o m p code       what is said under the new yard that o tells, if it tells one, by the commands after it
--   Aside c                    c changes neither the code store nor which yard stands over it
use Rattle.std.specs.Prelude.{ℕ, Bool, true, List, [], ◌++◌, map, vec_items, Some, None, Option}
use Rattle.std.specs.Borrow.{Bor}
use Rattle.buffers.specs.declared.Buffers.{Buffers}
use Rattle.buffers.specs.Bytes.{bytes_of}
use Rattle.policy.specs.declared.any.AnyPolicy.{AnyPolicy}
use Rattle.yard_steps.specs.Model.{Yard, new_yard}
use Rattle.yard.specs.Yards.{seen}
use Rattle.yard_script.specs.declared.commands.Command.{Command}
use Rattle.yard_script.specs.declared.commands.Command.TheVariants as cmd
use Rattle.session.specs.declared.answers.Answer.{Answer}
use Rattle.session.specs.declared.performing.Performance.{Performance}
use Rattle.session.specs.declared.sessions.Session.{Session}
use Rattle.session.specs.Said.{Said, plain}
use Rattle.session.specs.Performed.{State, under_yard, answers_of}

abbrev pub state_of : Buffers → AnyPolicy → List ℕ → Bool → Yard → State
state_of memory policy code under yard = record { bytes = bytes_of memory; policy = policy; code = code; under = under; yard = yard }

abbrev pub view : Session → List ℕ → Bool → State
view s code under = state_of s.memory s.policy code under (seen s.yard)

abbrev pub spoken : List Answer → List Said
spoken = map plain

abbrev pub told : Performance → List ℕ → Bool → List Command → List Said
told p code under cs = spoken (vec_items p.answers) ++ answers_of (view p.session code under) cs

abbrev pub or_yard : Option ℕ → State → State
or_yard None s = s
or_yard (Some n) s = under_yard s n

abbrev pub following : Option (ℕ × Bor (List Command)) → Buffers → AnyPolicy → List ℕ → List Said
following None memory policy code = []
following (Some (n, cs)) memory policy code = answers_of (state_of memory policy code true (new_yard code n)) cs.now

abbrev pub Aside : Command → Type 0
Aside (cmd.Decode w) = Unit {0}
Aside (cmd.Encode i) = Unit {0}
Aside (cmd.FlatMemory n) = Unit {0}
Aside (cmd.LanesMemory ns) = Unit {0}
Aside (cmd.Peek address count) = Unit {0}
Aside (cmd.Rights rows) = Unit {0}
Aside (cmd.Rings domains gates) = Unit {0}
Aside (cmd.May domain gate) = Unit {0}
Aside (cmd.Code words) = ⊥
Aside (cmd.CodeFile path) = Unit {0}
Aside (cmd.Check base m) = Unit {0}
Aside (cmd.Yard size) = ⊥
Aside (cmd.Admit registers base m d k) = Unit {0}
Aside (cmd.Open gate domain offset) = Unit {0}
Aside (cmd.Call gate values) = Unit {0}
Aside (cmd.Run budget) = Unit {0}
Aside (cmd.Reply value) = Unit {0}
Aside cmd.Cut = Unit {0}
Aside (cmd.Register domain number) = Unit {0}
