use Rattle.std.proofs.Common.{◌≡◌, ◌∙◌, ◌<◌, ℕ, Bool, true, false, sym, refl, get_or, arith}
use Rattle.std.proofs.lemmas.Option.{slice_get-get_or}
use Rattle.net_graph.specs.declared.arcs.Arc.{Arc}
use Rattle.net_graph.proofs.lemmas.SearchLemmas.{AddsHeads-shut, AddsHeads-open, AddsHeads-all}
use Rattle.net_graph.proofs.lent_room.add_next.Goals as goal
use Rattle.net_graph.proofs.lent_room.add_next.Goals.{then-is_open, else-is_open}

pub loop-arc-preserved : goal.loop-arc-preserved
loop-arc-preserved g c =
    let arcs = c.arcs_from-arc-items.result.now in
    let n = c.loop-arc.arc-index in
    let opens : ℕ → Bool = g.P.Passage.opens c.args.passage.now in
    let d : Arc = record { number = 0; from = 0; to = 0 } in
    let arc : Arc = get_or arcs n d in
    let at = slice_get-get_or arcs n d c.loop-arc-test.true in
    let leaves = c.arcs_from-arc-items.ensures.arcs.each n d c.loop-arc-test.true in
    let low : arc.to < c.args.graph.now.vertices = (c.arcs_from-arc-items.ensures.bounds n d c.loop-arc-test.true).0 in
    elim c.if-is_open.branch [
      | then-is_open w ↦
          let is_open : opens arc.number ≡ true = sym c.is_open.ensures ∙ w.if-is_open.true in
          rw (w.marks-is, w.queue-is, w.count-is) (
            AddsHeads-open _ opens arcs n _ _ _ arc c.loop-arc.invariant.0 at (low, (arc, leaves.0, is_open, leaves.1, refl)) w.add_vertex-count.ensures.order,
            w.add_vertex-count.ensures.found,
          )
      | else-is_open w ↦
          let is_shut : opens arc.number ≡ false = sym c.is_open.ensures ∙ w.if-is_open.false in
          rw (w.marks-is, w.queue-is, w.count-is) (
            AddsHeads-shut _ opens arcs n _ _ arc c.loop-arc.invariant.0 at is_shut,
            c.loop-arc.invariant.1,
          )
    ]

pub returns-clause-every : goal.returns-clause-every
returns-clause-every g c = AddsHeads-all _ _ _ _ _ _ _ _ c.arcs_from-arc-items.ensures.arcs (omega arith) c.loop-arc.invariant.0
