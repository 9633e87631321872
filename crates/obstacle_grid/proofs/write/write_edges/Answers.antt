use Rattle.std.proofs.Common.{arith}
use Rattle.lists.specs.ListLaws.{flat_map-take_more}
use Rattle.text_out.specs.GatherLaws.{gathers_two}
use Rattle.obstacle_grid.specs.Text.{edge_text}
use Rattle.obstacle_grid.proofs.write.write_edges.Goals as goal

pub loop-n-preserved : goal.loop-n-preserved
loop-n-preserved g c =
    grind (arith, gathers_two, flat_map-take_more edge_text c.args.g.now.edges c.loop-n.n c.edge.result c.edge.ensures.edge)
