-- What a line that tells no point and no end leads to.
use Rattle.std.proofs.Common.{sym, ◌∙◌}
use Rattle.stp_format.specs.Sections.{in_coordinates}
use Rattle.stp_format.specs.Left.{line_of}
use Rattle.stp_format.proofs.lemmas.SectionLines.{left_out, no_point}
use Rattle.stp_format.proofs.coordinates.point_told.Goals as goal

pub returns-then-is_left_out : goal.returns-then-is_left_out
returns-then-is_left_out c = λ s.
    left_out (in_coordinates s c.args.nodes c.args.points.now) (line_of c.args.line.now)
    (sym (c.is_left_out.ensures s c.args.nodes c.args.points.now) ∙ c.if-is_left_out.true)

pub returns-then-not-is_keyword : goal.returns-then-not-is_keyword
returns-then-not-is_keyword c = λ s.
    no_point s c.args.nodes c.args.points.now (line_of c.args.line.now)
    (sym (c.is_left_out.ensures s c.args.nodes c.args.points.now) ∙ c.if-is_left_out.false)
    (sym c.is_keyword.ensures ∙ c.if-is_keyword.false) (sym c.is_keyword-2.ensures ∙ c.if-not-is_keyword.true)
