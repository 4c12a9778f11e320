use Rattle.std.proofs.Common.{sym, ◌∙◌, subst}
use Rattle.rv32i.specs.Laws.{NoWordExactly}
use Rattle.rv32i.proofs.Held.{encoded_decodes}
use Rattle.rv32i.proofs.Fitting.{no_word}
use Rattle.rv32i.proofs.encoding.encode.Goals as goal

pub returns : goal.returns
returns c =
    let i = c.args.instruction in
    let h = c.word_of.ensures in
    record { is = h; decodes = λ w e. encoded_decodes i w (sym h ∙ e); none = subst (NoWordExactly i) (sym h) (no_word i) }
