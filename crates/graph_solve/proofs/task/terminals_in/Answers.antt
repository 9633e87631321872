use Rattle.std.proofs.Common.{◌<◌, ◌∙◌, arith}
use Rattle.std.proofs.lemmas.List.{map_more}
use Rattle.std.proofs.lemmas.List.Elements.{All-push}
use Rattle.std.proofs.lemmas.Option.{slice_get_within, get_or_from_slice_get}
use Rattle.graph_solve.specs.Task.{vertex_of}
use Rattle.graph_solve.proofs.lemmas.Parts.{vertex_of-below}
use Rattle.graph_solve.proofs.task.terminals_in.Goals as goal

pub loop-n-preserved : goal.loop-n-preserved
loop-n-preserved c = record {
  end = c.loop-n.invariant.end;
  count = omega (arith, c.push_reserved.ensures.len);
  room = c.push_reserved.ensures.capacity ∙ c.loop-n.invariant.room;
  named = c.push_reserved.ensures.items ∙ (grind (arith, get_or_from_slice_get c.args.file.now.terminals c.loop-n.n c.terminal.result c.terminal.result, slice_get_within c.args.file.now.terminals c.loop-n.n c.terminal.result, map_more vertex_of c.args.file.now.terminals c.loop-n.n c.terminal.result (slice_get_within c.args.file.now.terminals c.loop-n.n c.terminal.result c.terminal.ensures.value)));
  below = rw c.push_reserved.ensures.items (All-push (λ t. t < c.args.file.now.nodes) c.loop-n.vertices.items
      (vertex_of c.terminal.result) c.loop-n.invariant.below
      (vertex_of-below c.args.file.now.nodes c.terminal.result c.terminal.ensures.node));
}
