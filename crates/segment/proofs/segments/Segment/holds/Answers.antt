use Rattle.std.proofs.Common.{sym, ◌∙◌}
use Rattle.segment.specs.Rows.{row}
use Rattle.segment.proofs.Bounds.{whole, is_inside}
use Rattle.segment.proofs.segments.Segment.holds.Goals as goal

pub returns : goal.returns
returns c =
    let s = c.args.self in
    let a = c.args.address in
    record {
      is = c.covers.ensures;
      whole = λ e. whole (row s) a s.large s.aligned (is_inside (row s) a (sym c.covers.ensures ∙ e));
    }
