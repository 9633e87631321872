use Rattle.std.proofs.Common.{◌≡◌, ap, filter, flat_map, get_or, length, subst, arith}
use Rattle.std.specs.List.{range_with_len}
use Rattle.net_graph.specs.Graph.{Graph}
use Rattle.text_out.specs.Gathers.{Gathers}
use Rattle.text_out.specs.GatherLaws.{gathers_two}
use Rattle.slack_tools.specs.Text.{edge_text, is_above}
use Rattle.slack_tools.specs.ListedLaws.{passing_text}
use Rattle.slack_tools.proofs.write.write_lines.Goals as goal

pub loop-edge-preserved : goal.loop-edge-preserved
loop-edge-preserved g c =
    gathers_two _ _ _ _ _ _ _ _ _ c.loop-edge.invariant c.write_edge.ensures
    (passing_text (edge_text c.args.grid.now c.args.bounds.now)
    (λ e. is_above c.args.above (get_or c.args.bounds.now e 0)) c.loop-edge.edge)

pub returns : goal.returns
returns g c =
    let count = ap (λ (x : Graph). length x.edges) c.graph.ensures.graph in
    let all : c.loop-edge.edge ≡ length c.args.bounds.now = omega (arith, count) in
    subst (λ n. Gathers (g.S.Sink.state c.args.sink.now) c.args.block.now
    (flat_map (edge_text c.args.grid.now c.args.bounds.now)
    (filter (λ e. is_above c.args.above (get_or c.args.bounds.now e 0)) (range_with_len 0 n)))
    (g.S.Sink.state c.loop-edge.sink) c.loop-edge.block) all c.loop-edge.invariant
