-- What the commands of a script do and say. Assumes nothing.
--   State              the memory's bytes, the policy, the words of the code store, whether a yard stands over it, and the yard
--   no_rights           the policy that allows nothing
--   start              no byte, no right, no code, and a yard over no word that takes memories of no byte
--   performed c s      the state after the command c, from s, and what it says, if anything
--   answers_of s cs     what the commands cs say one after another, from s
use Rattle.std.specs.Prelude.{ℕ, Bool, true, false, cond, List, [], ◌∷◌, ◌++◌, replicate, Some, None, vec_items, Option, Result, slice_index}
use Rattle.std.specs.Option.{option_to_list}
use Rattle.rv32i.specs.Decoded.{decoded}
use Rattle.rv32i.specs.Encoded.{encoded}
use Rattle.memories.specs.Layout.{counted, woven}
use Rattle.buffers.specs.Bytes.{peeked, zeros}
use Rattle.policy.specs.declared.any.AnyPolicy.{AnyPolicy}
use Rattle.policy.specs.declared.any.AnyPolicy.TheVariants.{Rights, Rings}
use Rattle.policy.specs.Choice.{any_allows}
use Rattle.code_check.specs.Verdicts.{checked}
use Rattle.yard_steps.specs.Model.{Yard, new_yard}
use Rattle.yard_steps.specs.Calls.{Running, admitted, opened, called_from, running, replied, cut_off, register_of}
use Rattle.yard_script.specs.declared.commands.Command.{Command}
use Rattle.yard_script.specs.declared.commands.Command.TheVariants as cmd
use Rattle.session.specs.Said.{Said}
use Rattle.session.specs.Said as said

pub record State : Type 0 where
  pub bytes : List ℕ
  pub policy : AnyPolicy
  pub code : List ℕ
  pub under : Bool
  pub yard : Yard

abbrev pub no_rights : AnyPolicy
no_rights = Rights (record { rows = replicate 8 0 })

abbrev pub start : State
start = record { bytes = counted []; policy = no_rights; code = []; under = false; yard = new_yard [] 0 }

-- the state with one part changed
abbrev pub with_bytes : State → List ℕ → State
with_bytes s bs = record { bytes = bs; policy = s.policy; code = s.code; under = s.under; yard = s.yard }

abbrev pub with_policy : State → AnyPolicy → State
with_policy s p = record { bytes = s.bytes; policy = p; code = s.code; under = s.under; yard = s.yard }

abbrev pub with_yard : State → Yard → State
with_yard s y = record { bytes = s.bytes; policy = s.policy; code = s.code; under = s.under; yard = y }

-- more code, unless a yard stands over it
abbrev pub with_code : State → List ℕ → State
with_code s ws = record { bytes = s.bytes; policy = s.policy; code = cond s.under s.code (s.code ++ ws); under = s.under; yard = s.yard }

-- a new yard over the code
abbrev pub under_yard : State → ℕ → State
under_yard s n = record { bytes = s.bytes; policy = s.policy; code = s.code; under = true; yard = new_yard s.code n }

-- what a call of the yard leaves, and what it says
abbrev pub calling : {T : Type 0} → State → (Result T (List ℕ) → Said) → Yard × Result T (List ℕ) → State × Option Said
calling s say x = (with_yard s x.0, Some (say x.1))

abbrev pub ran_on : State → Running → State × Option Said
ran_on s x = (with_yard (with_bytes s x.bytes) x.yard, Some (said.Ran x.answer))

abbrev pub performed : Command → State → State × Option Said
performed (cmd.Decode w) s = (s, Some (said.Decoded (decoded w)))
performed (cmd.Encode i) s = (s, Some (said.Encoded (encoded i)))
performed (cmd.FlatMemory n) s = (with_bytes s (counted (zeros n)), None)
performed (cmd.LanesMemory ns) s = (with_bytes s (woven (zeros (slice_index ns 0)) (zeros (slice_index ns 1)) (zeros (slice_index ns 2)) (zeros (slice_index ns 3))), None)
performed (cmd.Peek address count) s = (s, Some (said.Peeked (peeked s.bytes address count)))
performed (cmd.Rights rows) s = (with_policy s (Rights (record { rows = rows })), None)
performed (cmd.Rings domains gates) s = (with_policy s (Rings (record { domains = domains; gates = gates })), None)
performed (cmd.May domain gate) s = (s, Some (said.May (any_allows s.policy domain gate)))
performed (cmd.Code words) s = (with_code s (vec_items words), None)
performed (cmd.CodeFile path) s = (s, None)
performed (cmd.Check base m) s = (s, Some (said.Checked (checked s.code base m)))
performed (cmd.Yard size) s = (under_yard s size, None)
performed (cmd.Admit registers base m d k) s = calling s said.Admitted (admitted s.yard registers base m d k)
performed (cmd.Open gate domain offset) s = calling s said.Opened (opened s.yard gate domain offset)
performed (cmd.Call gate values) s = calling s said.Called (called_from s.yard gate values)
performed (cmd.Run budget) s = ran_on s (running (any_allows s.policy) budget s.yard s.bytes)
performed (cmd.Reply value) s = calling s said.Replied (replied s.yard value)
performed cmd.Cut s = calling s said.Cut (cut_off s.yard)
performed (cmd.Register domain number) s = (s, Some (said.Register (register_of s.yard domain number)))

abbrev pub answers_of : State → List Command → List Said
answers_of s [] = []
answers_of s (c ∷ cs) = option_to_list (performed c s).1 ++ answers_of (performed c s).0 cs
