use Rattle.std.proofs.Common.{map, take}
use Rattle.text_out.specs.Gathers.{Gathers}
use Rattle.net_graph.specs.Members.{members_of}
use Rattle.answer_text.specs.LineKinds as line
use Rattle.answer_text.specs.Lines.{lines_text}
use Rattle.answer_text.specs.Answers.{edge_labels}
use Rattle.answer_text.proofs.body.write_edges.Given as goal

-- the lines of the members among the numbers passed
abbrev pub invariant-loop-e : goal.invariant-loop-e
invariant-loop-e g l = Gathers (g.S.Sink.state l.initial.sink) l.initial.block (lines_text (map line.Edge (edge_labels (g.L.Labelled.labels l.of) (members_of (take l.e l.network))))) (g.S.Sink.state l.sink) l.block
