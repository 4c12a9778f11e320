use Rattle.std.proofs.Common.{◌≡◌, ◌/◌, ℕ, List, IfOk, map, length, vec_items, ap, ◌∙◌, subst, w32, rules}
use Rattle.std.specs.Int.{from_le_bytes}
use Rattle.yard_script.proofs.Chunks.{numbers_of-first_chunks}
use Rattle.yard_script.proofs.code.whole_words.Goals as goal

pub returns : goal.returns
returns c =
    let bs = c.args.bytes.now in
    let made : IfOk c.collect.result (λ v. vec_items v ≡ map (from_le_bytes w32) c.as_chunks.result.0.now) = search rules in
    let same = ap (map (from_le_bytes w32)) c.as_chunks.ensures.front ∙ numbers_of-first_chunks bs (length bs / 4) 0 in
    record { is = subst (λ (l : List ℕ). IfOk c.collect.result (λ v. vec_items v ≡ l)) same made }
