-- What a line that tells no count of terminals leads to.
use Rattle.std.proofs.Common.{sym, ◌∙◌}
use Rattle.stp_format.specs.Sections.{in_terminals, uncounted}
use Rattle.stp_format.specs.Left.{line_of}
use Rattle.stp_format.proofs.lemmas.SectionLines.{left_out, no_count}
use Rattle.stp_format.proofs.terminals.count_told.Goals as goal

pub returns-then-is_left_out : goal.returns-then-is_left_out
returns-then-is_left_out c = λ s nodes.
    left_out (in_terminals s nodes uncounted) (line_of c.args.line.now) (sym (c.is_left_out.ensures s nodes uncounted) ∙ c.if-is_left_out.true)

pub returns-then-not-is_keyword : goal.returns-then-not-is_keyword
returns-then-not-is_keyword c = λ s nodes.
    no_count s nodes (line_of c.args.line.now) (sym (c.is_left_out.ensures s nodes uncounted) ∙ c.if-is_left_out.false)
    (sym c.is_keyword.ensures ∙ c.if-not-is_keyword.true)
