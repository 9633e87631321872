use Rattle.std.proofs.Common.{◌≡◌, ◌*◌, ◌≤◌, length, map, take}
use Rattle.std.specs.Prelude.{All}
use Rattle.net_graph.specs.Members.{members_of}
use Rattle.answer_text.specs.LineKinds as line
use Rattle.answer_text.specs.Lines.{lines_text}
use Rattle.answer_text.specs.Spelling.{FitsEdge}
use Rattle.answer_text.specs.Answers.{edge_labels}
use Rattle.answer_text.proofs.length.edges_len.Given as goal

-- the length of the lines of the members among the numbers passed, whose labels fit
abbrev pub invariant-loop-e : goal.invariant-loop-e
invariant-loop-e g l = record {
  length : l.sum ≡ length (lines_text (map line.Edge (edge_labels (g.L.Labelled.labels l.of) (members_of (take l.e l.network)))));
  short : l.sum ≤ 164 * l.e;
  fits : All (FitsEdge (g.L.Labelled.form l.of)) (edge_labels (g.L.Labelled.labels l.of) (members_of (take l.e l.network)));
}
