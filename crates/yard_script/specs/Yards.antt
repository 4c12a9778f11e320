-- Where a yard stands over the code store. Assumes nothing.
--   appends under        whether a yard stands after more code: none where one stands already, since its code does not change
--   stands_after c under  whether a yard stands after the command c, given whether one stood before it; none where c may not come
use Rattle.std.specs.Prelude.{Bool, true, false, cond, Some, None, Option}
use Rattle.yard_script.specs.declared.commands.Command.{Command}
use Rattle.yard_script.specs.declared.commands.Command.TheVariants as cmd

abbrev pub appends : Bool → Option Bool
appends under = cond under None (Some false)

abbrev pub stands_after : Command → Bool → Option Bool
stands_after (cmd.Decode w) under = Some under
stands_after (cmd.Encode i) under = Some under
stands_after (cmd.FlatMemory n) under = Some under
stands_after (cmd.LanesMemory ns) under = Some under
stands_after (cmd.Peek address count) under = Some under
stands_after (cmd.Rights rows) under = Some under
stands_after (cmd.Rings domains gates) under = Some under
stands_after (cmd.May domain gate) under = Some under
stands_after (cmd.Code words) under = appends under
stands_after (cmd.CodeFile path) under = appends under
stands_after (cmd.Check base m) under = Some under
stands_after (cmd.Yard size) under = Some true
stands_after (cmd.Admit registers base m d k) under = Some under
stands_after (cmd.Open gate domain offset) under = Some under
stands_after (cmd.Call gate values) under = Some under
stands_after (cmd.Run budget) under = Some under
stands_after (cmd.Reply value) under = Some under
stands_after cmd.Cut under = Some under
stands_after (cmd.Register domain number) under = Some under
