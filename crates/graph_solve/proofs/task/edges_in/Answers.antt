use Rattle.graph_solve.specs.Task.{edge_of}
use Rattle.std.proofs.lemmas.List.{map_more}
use Rattle.std.proofs.lemmas.Option.{slice_get_within, get_or_from_slice_get}
use Rattle.std.proofs.Common.{subst, ◌∙◌, arith}
use Rattle.std.proofs.lemmas.List.Elements.{All-push}
use Rattle.net_graph.specs.Graph.{HasEndsBelow}
use Rattle.graph_solve.proofs.task.edges_in.Goals as goal

pub loop-n-preserved : goal.loop-n-preserved
loop-n-preserved c = record {
  end = c.loop-n.invariant.end;
  count = omega (arith, c.push_reserved.ensures.len);
  room = c.push_reserved.ensures.capacity ∙ c.loop-n.invariant.room;
  edges = c.push_reserved.ensures.items ∙ (grind (arith, get_or_from_slice_get c.args.file.now.edges c.loop-n.n c.edge.result c.edge.result, slice_get_within c.args.file.now.edges c.loop-n.n c.edge.result, map_more edge_of c.args.file.now.edges c.loop-n.n c.edge.result (slice_get_within c.args.file.now.edges c.loop-n.n c.edge.result c.edge.ensures.value)));
  ends = rw c.push_reserved.ensures.items (All-push (HasEndsBelow c.args.file.now.nodes) c.loop-n.edges.items
      c.between_vertices.result c.loop-n.invariant.ends
      (subst (λ nodes. HasEndsBelow nodes c.between_vertices.result) c.nodes.ensures.value c.between_vertices.ensures.ends));
}
