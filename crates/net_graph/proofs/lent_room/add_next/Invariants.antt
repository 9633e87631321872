use Rattle.std.proofs.Common.{◌<◌, take}
use Rattle.net_graph.specs.Found.{AreFoundInRoom}
use Rattle.net_graph.specs.Search.{OpenStep}
use Rattle.net_graph.proofs.lemmas.SearchLemmas.{AddsHeads}
use Rattle.net_graph.proofs.lent_room.add_next.Given as goal

abbrev pub invariant-loop-arc : goal.invariant-loop-arc
invariant-loop-arc g l =
    AddsHeads (λ w. (w < l.graph.vertices) × OpenStep l.graph.edges (g.P.Passage.opens l.passage) l.vertex w) (g.P.Passage.opens l.passage) l.arc-items l.arc-index (take l.fn.count l.fn.queue) (take l.count l.queue)
    × AreFoundInRoom l.marks l.queue l.count
