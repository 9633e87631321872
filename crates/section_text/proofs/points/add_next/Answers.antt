-- A new point leads on.
use Rattle.std.specs.Prelude.{Ok}
use Rattle.std.proofs.Common.{ap, ◌∙◌}
use Rattle.section_text.proofs.Steps.{point_leads}
use Rattle.section_text.proofs.points.add_next.Goals as goal

pub returns-in-Ok-New-clause-ok : goal.returns-in-Ok-New-clause-ok
returns-in-Ok-New-clause-ok g c =
    let read = c.in_ok-point.ensures.found in
    let new = c.in-Ok-New.is ∙ ap Ok c.in-Ok-New.field-0-is in
    point_leads g.S.SectionFormat.format c.args.text.now c.next_point.new.text read.0 c.in_ok-point.point c.args.points.now c.add.new.self read.2 read.1
    (c.add.ensures.new_point new) (c.add.ensures.new new)
