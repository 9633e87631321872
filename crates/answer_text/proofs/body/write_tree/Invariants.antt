use Rattle.std.proofs.Common.{◌≡◌, take}
use Rattle.text_out.specs.Gathers.{Gathers}
use Rattle.cert_tree.specs.Preorder.{packings_of, leaves_in}
use Rattle.answer_text.specs.Lines.{lines_text}
use Rattle.answer_text.proofs.lemmas.NodeLines.{nodes_lines}
use Rattle.answer_text.proofs.body.write_tree.Given as goal

-- the lines of the nodes passed, and how many of them were leaves
abbrev pub invariant-loop-node : goal.invariant-loop-node
invariant-loop-node g l = record {
  leaf : l.leaf ≡ leaves_in (take l.node-index l.node-items);
  text : Gathers (g.S.Sink.state l.initial.sink) l.initial.block (lines_text (nodes_lines (g.L.Labelled.labels l.of) (take l.node-index l.node-items) (packings_of l.tree))) (g.S.Sink.state l.sink) l.block;
}
