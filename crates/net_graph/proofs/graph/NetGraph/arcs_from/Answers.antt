use Rattle.net_graph.proofs.lemmas.ArcLemmas.{AreArcsFrom-of_graph, AreArcsFrom-bounds}
use Rattle.net_graph.proofs.graph.NetGraph.arcs_from.Goals as goal

pub returns-clause-arcs : goal.returns-clause-arcs
returns-clause-arcs c = rw (← c.self.view_is) (AreArcsFrom-of_graph c.self.inside.edges c.self.inside.arcs.all _ _ c.self.invariant.2.all c.leaving.ensures)

pub returns-clause-bounds : goal.returns-clause-bounds
returns-clause-bounds c =
    rw (← c.self.view_is)
    (AreArcsFrom-bounds c.self.inside.vertices c.self.inside.edges c.args.vertex _ c.self.invariant.0.ends
    (AreArcsFrom-of_graph c.self.inside.edges c.self.inside.arcs.all _ _ c.self.invariant.2.all c.leaving.ensures))
