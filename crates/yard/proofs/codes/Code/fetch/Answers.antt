use Rattle.std.proofs.Common.{vec_items, sym, ◌∙◌, arith}
use Rattle.yard.proofs.Words.{cells_length, unaligned, past, within}
use Rattle.yard.proofs.codes.Code.fetch.Goals as goal
use Rattle.yard.proofs.codes.Code.fetch.Goals.{then-pc-ne0-via-then-pc-ne0, then-pc-ne0-via-else-pc-ne0+then-i-len}

pub returns-then-pc-ne0 : goal.returns-then-pc-ne0
returns-then-pc-ne0 c =
    let y = c.args.self.now in
    elim c.then-pc-ne0.branch [
      | then-pc-ne0-via-then-pc-ne0 w ↦ sym (unaligned y.store.now (vec_items y.cells) y.decoded c.args.pc w.if-pc-ne0.true)
      | then-pc-ne0-via-else-pc-ne0+then-i-len w ↦ sym (past y.store.now (vec_items y.cells) y.decoded c.args.pc (omega (arith, y.cells.ok.0)))
    ]

pub bounds-self-i : goal.bounds-self-i
bounds-self-i c =
    let y = c.args.self.now in
    omega (arith, y.cells.ok.0, cells_length y.store.now (vec_items y.cells) y.decoded)

pub returns-in-Ok : goal.returns-in-Ok
returns-in-Ok c =
    let y = c.args.self.now in
    sym (within y.store.now (vec_items y.cells) y.decoded c.args.pc _ _ c.if-pc-ne0.false (omega (arith, y.cells.ok.0)) (sym c.index.ensures ∙ c.in-Ok.is))

pub returns-in-Err : goal.returns-in-Err
returns-in-Err c =
    let y = c.args.self.now in
    sym (within y.store.now (vec_items y.cells) y.decoded c.args.pc _ _ c.if-pc-ne0.false (omega (arith, y.cells.ok.0)) (sym c.index.ensures ∙ c.in-Err.is))
