use Rattle.std.proofs.Common.{◌≡◌, ℕ, ◌+◌, List, length, get_or, Ok, Err, sym, ap, ◌∙◌}
use Rattle.std.proofs.lemmas.Result.{err_from_is_err_and}
use Rattle.rv32i.specs.Decoded.{decoded}
use Rattle.refusal.specs.Told.{told}
use Rattle.code_check.specs.Verdicts.{Verdict, passed, passed_at}
use Rattle.code_check.proofs.Scan.{one_more, stops_at}
use Rattle.code_check.proofs.checking.check_words.Goals as goal

-- what the call says of a word is the verdict on its place
here : (w : List ℕ) (i next : ℕ) (v : Verdict) → next ≡ get_or w (i + 1) 0 → v ≡ passed (length w) i (decoded next) (decoded (get_or w i 0)) → passed_at w i ≡ v
here w i next v e h = sym (h ∙ ap (λ (x : ℕ). passed (length w) i (decoded x) (decoded (get_or w i 0))) e)

pub returns-in_err-check_word : goal.returns-in_err-check_word
returns-in_err-check_word c =
    let w = c.args.window.now in
    let i = c.loop-place.place in
    let p = err_from_is_err_and c.from_residual.result c.from_residual.ensures.1 in
    rw (p.1, p.2) (sym (stops_at (passed_at w) (length w) i _ c.loop-place-test.true c.loop-place.invariant (here w i c.word_at.result (Err (told c.in_err-check_word.field-0.0)) c.word_at.ensures c.in_err-check_word.ensures)))

pub loop-place-preserved : goal.loop-place-preserved
loop-place-preserved c =
    let w = c.args.window.now in
    let i = c.loop-place.place in
    one_more (passed_at w) i c.loop-place.invariant (here w i c.word_at.result (Ok tt) c.word_at.ensures c.in_ok-check_word.ensures)
