-- What a line that tells no terminal and no end leads to.
use Rattle.std.proofs.Common.{sym, ◌∙◌}
use Rattle.stp_format.specs.Sections.{in_terminals, naming}
use Rattle.stp_format.specs.Left.{line_of}
use Rattle.stp_format.proofs.lemmas.SectionLines.{left_out, no_terminal}
use Rattle.stp_format.proofs.terminals.terminal_told.Goals as goal

pub returns-then-is_left_out-clause-told : goal.returns-then-is_left_out-clause-told
returns-then-is_left_out-clause-told c = λ s due terminals.
    left_out (in_terminals s c.args.nodes (naming due terminals)) (line_of c.args.line.now)
    (sym (c.is_left_out.ensures s c.args.nodes (naming due terminals)) ∙ c.if-is_left_out.true)

pub returns-then-not-is_keyword-clause-told : goal.returns-then-not-is_keyword-clause-told
returns-then-not-is_keyword-clause-told c = λ s due terminals.
    no_terminal s c.args.nodes due terminals (line_of c.args.line.now)
    (sym (c.is_left_out.ensures s c.args.nodes (naming due terminals)) ∙ c.if-is_left_out.false)
    (sym c.is_keyword.ensures ∙ c.if-is_keyword.false) (sym c.is_keyword-2.ensures ∙ c.if-not-is_keyword.true)
