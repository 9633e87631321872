use Rattle.std.proofs.Common.{arith}
use Rattle.text_out.specs.GatherLaws.{gathers_two}
use Rattle.printed_texts.specs.Plot.{edge_stroke}
use Rattle.printed_texts.proofs.lemmas.Strokes.{members-take_more}
use Rattle.printed_texts.proofs.plots.write_network.Goals as goal

pub loop-edge-preserved : goal.loop-edge-preserved
loop-edge-preserved g c =
    gathers_two _ _ _ _ _ _ _ _ _ c.loop-edge.invariant c.write_member.ensures
    (members-take_more (edge_stroke c.args.scale.now c.args.grid.now) c.args.network.now c.loop-edge.edge (omega arith))
