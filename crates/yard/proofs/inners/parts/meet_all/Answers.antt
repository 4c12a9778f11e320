use Rattle.std.proofs.Common.{◌++◌, map, take, set, sym, refl, ap, ◌∙◌, append-nil, arith, length-set}
use lib.Seq.{map-set}
use Rattle.std.proofs.lemmas.List.Edits.{map_over_more}
use Rattle.std.proofs.lemmas.List.{get_or-map, length-map, take_all, drop_all}
use Rattle.yard_steps.specs.Steps.{after}
use Rattle.yard.specs.Shapes.{shape}
use Rattle.yard.proofs.inners.parts.meet_all.Goals as goal

pub loop-domain-init : goal.loop-domain-init
loop-domain-init c = (c.told-domains, refl)

pub loop-domain-preserved : goal.loop-domain-preserved
loop-domain-preserved c =
    let ds = c.loop-domain.domains in
    let i = c.loop-domain.domain-index in
    let x = c.domain-item.result in
    let rows = map shape c.args.domains.now in
    let f = after c.args.event in
    let here = ap shape c.domain-item.is ∙ sym (get_or-map shape ds i x (shape x) (omega (arith, c.loop-domain.invariant.0))) in (
      length-set ds i _ ∙ c.loop-domain.invariant.0,
      map-set shape ds i _
          ∙ (ap (set (map shape ds) i) (c.meet.ensures ∙ ap (λ d. f (shape d)) (sym c.domain-item.is))
          ∙ map_over_more f rows (map shape ds) i (shape x) (omega (arith, length-map c.args.domains.now shape)) c.loop-domain.invariant.1 here),
    )

pub returns : goal.returns
returns c =
    let rows = map shape c.args.domains.now in
    let i = c.loop-domain.domain-index in
    let f = after c.args.event in
    c.loop-domain.invariant.1
    ∙ (ap (λ l. map f (take i rows) ++ l) (drop_all i rows (omega (arith, length-map c.args.domains.now shape)))
    ∙ (append-nil (map f (take i rows)) ∙ ap (map f) (take_all i rows (omega (arith, length-map c.args.domains.now shape)))))
