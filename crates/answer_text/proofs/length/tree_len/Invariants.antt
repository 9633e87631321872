use Rattle.std.proofs.Common.{◌≡◌, ◌+◌, ◌*◌, ◌≤◌, length, take}
use Rattle.std.specs.Prelude.{All}
use Rattle.cert_tree.specs.Preorder.{packings_of, leaves_in}
use Rattle.answer_text.specs.Answers.{FitsNode}
use Rattle.answer_text.specs.Lines.{lines_text}
use Rattle.answer_text.specs.Spelling.{FitsWeight}
use Rattle.answer_text.proofs.lemmas.NodeLines.{nodes_lines}
use Rattle.answer_text.proofs.length.tree_len.Given as goal

-- the length of the lines of the nodes passed, how many of them were leaves, and what is known of their numbers
abbrev pub invariant-loop-node : goal.invariant-loop-node
invariant-loop-node g l = record {
  leaf : l.leaf ≡ leaves_in (take l.node-index l.node-items);
  length : l.sum ≡ length (lines_text (nodes_lines (g.L.Labelled.labels l.of) (take l.node-index l.node-items) (packings_of l.tree)));
  short : l.sum ≤ 175 * l.node-index + 12760297 * l.leaf;
  names : All (FitsNode (g.L.Labelled.form l.of) (g.L.Labelled.labels l.of)) (take l.node-index l.node-items);
  weights : All (All FitsWeight) (take l.leaf (packings_of l.tree));
}
