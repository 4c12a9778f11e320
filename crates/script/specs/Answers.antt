-- What a script's commands answer. Assumes nothing.
--   Peeks bs a       a is an answer of the bytes bs
--   Checks v a       a is an answer of the verdict v
--   Answers c s a    a is what the command c answers in the state s, if anything
use Rattle.std.specs.Prelude.{◌≡◌, ℕ, List, Some, None, vec_items, Option}
use Rattle.rv32i.specs.Decoded.{decoded}
use Rattle.rv32i.specs.Encoded.{encoded}
use Rattle.refusal.specs.Told.{told_in}
use Rattle.buffers.specs.Bytes.{peeked}
use Rattle.policy.specs.Choice.{any_allows}
use Rattle.code_check.specs.Verdicts.{Verdict, checked}
use Rattle.script.specs.declared.commands.Command.{Command}
use Rattle.script.specs.declared.commands.Command.TheVariants as cmd
use Rattle.script.specs.declared.commands.Answer.{Answer}
use Rattle.script.specs.declared.commands.Answer.TheVariants as ans
use Rattle.script.specs.States.{State}

abbrev pub Peeks : List (Option ℕ) → Option Answer → Type 0
Peeks bs (Some (ans.Decoded d)) = ⊥
Peeks bs (Some (ans.Encoded e)) = ⊥
Peeks bs (Some (ans.Peeked v)) = vec_items v ≡ bs
Peeks bs (Some (ans.May b)) = ⊥
Peeks bs (Some (ans.Checked r)) = ⊥
Peeks bs None = ⊥

abbrev pub Checks : Verdict → Option Answer → Type 0
Checks v (Some (ans.Decoded d)) = ⊥
Checks v (Some (ans.Encoded e)) = ⊥
Checks v (Some (ans.Peeked bs)) = ⊥
Checks v (Some (ans.May b)) = ⊥
Checks v (Some (ans.Checked r)) = told_in r ≡ v
Checks v None = ⊥

abbrev pub Answers : Command → State → Option Answer → Type 0
Answers (cmd.Decode w) s a = a ≡ Some (ans.Decoded (decoded w))
Answers (cmd.Encode i) s a = a ≡ Some (ans.Encoded (encoded i))
Answers (cmd.FlatMemory n) s a = a ≡ None
Answers (cmd.LanesMemory ns) s a = a ≡ None
Answers (cmd.Peek address count) s a = Peeks (peeked s.bytes address count) a
Answers (cmd.Rights rows) s a = a ≡ None
Answers (cmd.Rings domains gates) s a = a ≡ None
Answers (cmd.May domain gate) s a = a ≡ Some (ans.May (any_allows s.policy domain gate))
Answers (cmd.Code words) s a = a ≡ None
Answers (cmd.CodeFile path) s a = a ≡ None
Answers (cmd.Check base m) s a = Checks (checked s.code base m) a
