use Rattle.lists.specs.ListLaws.{flat_map-take_more}
use Rattle.text_out.specs.GatherLaws.{gathers_two}
use Rattle.printed_texts.specs.Grid.{edge_between}
use Rattle.printed_texts.proofs.grid.write_edges.Goals as goal

pub loop-n-preserved : goal.loop-n-preserved
loop-n-preserved g c =
    gathers_two _ _ _ _ _ _ _ _ _ c.loop-n.invariant c.write_edge.ensures
    (flat_map-take_more edge_between c.args.graph.now.edges c.loop-n.n c.edge-edge.result c.edge-edge.ensures.edge)
