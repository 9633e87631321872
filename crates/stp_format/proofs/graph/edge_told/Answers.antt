-- What a line that tells no edge and no end leads to.
use Rattle.std.proofs.Common.{sym, ◌∙◌}
use Rattle.stp_format.specs.Sections.{in_graph, listing}
use Rattle.stp_format.specs.Left.{line_of}
use Rattle.stp_format.proofs.lemmas.SectionLines.{left_out, no_edge}
use Rattle.stp_format.proofs.graph.edge_told.Goals as goal

pub returns-then-is_left_out-clause-told : goal.returns-then-is_left_out-clause-told
returns-then-is_left_out-clause-told c = λ s due edges.
    left_out (in_graph s (listing c.args.nodes due edges)) (line_of c.args.line.now)
    (sym (c.is_left_out.ensures s (listing c.args.nodes due edges)) ∙ c.if-is_left_out.true)

pub returns-then-not-is_keyword-clause-told : goal.returns-then-not-is_keyword-clause-told
returns-then-not-is_keyword-clause-told c = λ s due edges.
    no_edge s c.args.nodes due edges (line_of c.args.line.now)
    (sym (c.is_left_out.ensures s (listing c.args.nodes due edges)) ∙ c.if-is_left_out.false)
    (sym c.is_keyword.ensures ∙ c.if-is_keyword.false) (sym c.is_keyword-2.ensures ∙ c.if-not-is_keyword.true)
