-- What a line that tells no count of nodes leads to.
use Rattle.std.proofs.Common.{sym, ◌∙◌}
use Rattle.stp_format.specs.Sections.{in_graph, unsized}
use Rattle.stp_format.specs.Left.{line_of}
use Rattle.stp_format.proofs.lemmas.SectionLines.{left_out, no_nodes}
use Rattle.stp_format.proofs.graph.nodes_told.Goals as goal

pub returns-then-is_left_out-clause-nodes : goal.returns-then-is_left_out-clause-nodes
returns-then-is_left_out-clause-nodes c = λ s.
    left_out (in_graph s unsized) (line_of c.args.line.now) (sym (c.is_left_out.ensures s unsized) ∙ c.if-is_left_out.true)

pub returns-then-not-is_keyword-clause-nodes : goal.returns-then-not-is_keyword-clause-nodes
returns-then-not-is_keyword-clause-nodes c = λ s.
    no_nodes s (line_of c.args.line.now) (sym (c.is_left_out.ensures s unsized) ∙ c.if-is_left_out.false)
    (sym c.is_keyword.ensures ∙ c.if-not-is_keyword.true)
