use Rattle.std.proofs.Common.{arith}
use Rattle.std.proofs.lemmas.List.{take_all}
use Rattle.text_out.specs.GatherLaws.{gathers_two}
use Rattle.reduced_text.specs.Text.{left_lines}
use Rattle.reduced_text.proofs.lemmas.Texts.{left_lines-more}
use Rattle.reduced_text.proofs.write.write_edge_lines.Goals as goal

pub loop-n-preserved : goal.loop-n-preserved
loop-n-preserved g c =
    grind (arith, gathers_two, left_lines-more, c.loop-n.n, c.graph-in-loop-n.ensures.graph, c.edge.ensures.edge, c.loop-n.invariant, c.write_edge.ensures, c.originals.ensures.set)

pub returns : goal.returns
returns g c =
    grind (arith, take_all, left_lines, c.loop-n.n, c.loop-n-test.false, c.edge_count-n-end.ensures.count, c.graph.ensures.graph, c.graph.ensures.edges, c.loop-n.sink, c.loop-n.block, c.loop-n.invariant)
