-- What a script has built up, and what a command makes of it. Assumes nothing.
--   State              the memory's bytes, the policy, and the words of the code store
--   view s             the state of a session
--   no_rights           the policy that allows nothing
--   start              no byte, no right and no code
--   after c s          the state after the command c, from s
use Rattle.std.specs.Prelude.{ℕ, List, [], ◌++◌, replicate, vec_items, slice_index}
use Rattle.memories.specs.Layout.{counted, woven}
use Rattle.buffers.specs.Bytes.{bytes_of, zeros}
use Rattle.policy.specs.declared.any.AnyPolicy.{AnyPolicy}
use Rattle.policy.specs.declared.any.AnyPolicy.TheVariants.{Rights, Rings}
use Rattle.script.specs.declared.commands.Command.{Command}
use Rattle.script.specs.declared.commands.Command.TheVariants as cmd
use Rattle.script.specs.declared.sessions.Session.{Session}

pub record State : Type 0 where
  pub bytes : List ℕ
  pub policy : AnyPolicy
  pub code : List ℕ

abbrev pub view : Session → State
view s = record { bytes = bytes_of s.memory; policy = s.policy; code = vec_items s.code }

abbrev pub no_rights : AnyPolicy
no_rights = Rights (record { rows = replicate 8 0 })

abbrev pub start : State
start = record { bytes = counted []; policy = no_rights; code = [] }

abbrev pub after : Command → State → State
after (cmd.Decode w) s = s
after (cmd.Encode i) s = s
after (cmd.FlatMemory n) s = record { bytes = counted (zeros n); policy = s.policy; code = s.code }
after (cmd.LanesMemory ns) s =
    record { bytes = woven (zeros (slice_index ns 0)) (zeros (slice_index ns 1)) (zeros (slice_index ns 2)) (zeros (slice_index ns 3)); policy = s.policy; code = s.code }
after (cmd.Peek address count) s = s
after (cmd.Rights rows) s = record { bytes = s.bytes; policy = Rights (record { rows = rows }); code = s.code }
after (cmd.Rings domains gates) s = record { bytes = s.bytes; policy = Rings (record { domains = domains; gates = gates }); code = s.code }
after (cmd.May domain gate) s = s
after (cmd.Code words) s = record { bytes = s.bytes; policy = s.policy; code = s.code ++ vec_items words }
after (cmd.CodeFile path) s = s
after (cmd.Check base m) s = s
