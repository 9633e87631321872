use Rattle.std.proofs.Common.{◌≡◌, flat_map, ap, arith, subst}
use Rattle.std.specs.List.{range_with_len}
use Rattle.text_out.specs.Gathers.{Gathers}
use Rattle.hanan_grid.specs.Grid.{hanan_grid_of}
use Rattle.printed_texts.specs.Grid.{vertex_line}
use Rattle.printed_texts.proofs.grid.write_vertex_lines.Goals as goal

pub returns : goal.returns
returns g c =
    let all : c.loop-vertex.vertex ≡ (hanan_grid_of c.args.grid.now).vertices =
    omega (arith, c.loop-vertex-test.false, c.loop-vertex.auto.vertex-end, c.vertex_count-vertex-end.ensures.count, ap (λ h. h.vertices) c.graph.ensures.graph) in
    subst (λ n. Gathers (g.S.Sink.state c.args.sink.now) c.args.block.now (flat_map (vertex_line c.args.grid.now) (range_with_len 0 n)) (g.S.Sink.state c.loop-vertex.sink) c.loop-vertex.block)
    all c.loop-vertex.invariant
