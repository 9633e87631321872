use Rattle.std.proofs.Common.{◌/◌, ◌-◌, ◌<◌, true, length, get_or, refl, ap, ◌∙◌, length-set, arith}
use Rattle.std.proofs.lemmas.List.Elements.{Contains-get_or}
use Rattle.net_graph.specs.declared.arcs.Arc.{Arc}
use Rattle.branch.specs.SaturatedArcs.{IsEdgeOfOne}
use Rattle.branch.proofs.lemmas.SaturatedLemmas.{put_one}
use Rattle.branch.proofs.saturated.edges_back.Goals as goal

pub loop-place-preserved-then-has : goal.loop-place-preserved-then-has
loop-place-preserved-then-has c =
    let last = c.loop-place.place - 1 in
    let d : Arc = record { number = 0; from = 0; to = 0 } in
    let arc : Arc = get_or c.args.arcs.now last d in
    let within : last < length c.args.arcs.now = omega arith in
    let edge : arc.number / 2 < length c.args.g.now.edges = c.requires.edges last d within in
    let size = c.loop-place.invariant.1 in (
      ap length c.add.ensures ∙ length-set c.loop-place.wanted arc.from true ∙ c.loop-place.invariant.0,
      ap length c.add-then-has.ensures ∙ length-set c.loop-place.set (arc.number / 2) true ∙ size,
      rw c.add-then-has.ensures (put_one (IsEdgeOfOne c.args.arcs.now) c.loop-place.set (arc.number / 2) (omega arith)
          c.loop-place.invariant.2 (arc, Contains-get_or c.args.arcs.now last d within, refl)),
    )
