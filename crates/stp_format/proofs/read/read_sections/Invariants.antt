use Rattle.std.proofs.Common.{length}
use Rattle.stp_format.specs.Sections.{no_sections, outside}
use Rattle.stp_format.specs.Left.{told, LeadsTo}
use Rattle.stp_format.proofs.read.read_sections.Given as goal

abbrev pub invariant-loop-sections : goal.invariant-loop-sections
invariant-loop-sections l =
    LeadsTo (outside no_sections) l.fn.text (outside l.sections) l.text

abbrev pub decreases-loop-sections : goal.decreases-loop-sections
decreases-loop-sections l = length (told l.text)
