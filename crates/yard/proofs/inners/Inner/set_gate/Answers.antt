use Rattle.std.proofs.Common.{List, Option, Some, ap}
use Rattle.std.proofs.lemmas.List.{map-set}
use Rattle.yard_steps.specs.Model.{Entry}
use Rattle.yard.specs.Shapes.{lead}
use Rattle.yard.specs.Views.{view}
use Rattle.yard.proofs.inners.Inner.set_gate.Goals as goal

pub returns : goal.returns
returns c =
    let y = view c.args.self.now in
    ap (λ (es : List (Option Entry)). record { store = y.store; size = y.size; domains = y.domains; count = y.count; gates = es; chain = y.chain; pending = y.pending }) (map-set lead c.args.self.now.gates c.args.gate (Some c.args.entry))
