use Rattle.std.proofs.Common.{◌^◌, ◌<◌, sym, refl, ◌∙◌, subst, rules}
use Rattle.rv32i.specs.Laws.{RegistersBelow32}
use Rattle.rv32i.proofs.Held.{holds_decodes, decodes_holds, decoded_encodes}
use Rattle.rv32i.proofs.Below32.{registers_below}
use Rattle.rv32i.proofs.Refused.{cause_of_table}
use Rattle.rv32i.proofs.decoding.decode.Goals as goal

pub returns : goal.returns
returns c =
    let w = c.args.word in
    let lt : w < 2 ^ 32 = search rules in
    let h = c.instruction_of.ensures in
    record {
      is = h;
      holds = λ i. (λ k. h ∙ holds_decodes w i k, λ e. decodes_holds w i (sym h ∙ e));
      encodes = λ i e n. decoded_encodes i w lt (sym h ∙ e) n;
      refused = λ k e. cause_of_table w k (sym h ∙ e);
      registers = subst RegistersBelow32 (sym h) (registers_below w);
      examples = (refl, refl, refl, refl, refl, refl);
    }
