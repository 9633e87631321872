-- The file of the sections, at its end.
use Rattle.std.proofs.Common.{arith}
use Rattle.stp_format.specs.Sections.{no_sections, outside, file_of}
use Rattle.stp_format.specs.Left.{comes_to, section_or_end}
use Rattle.stp_format.proofs.lemmas.Steps.{tells_along}
use Rattle.stp_format.proofs.lemmas.Ends.{file_ends}
use Rattle.stp_format.proofs.read.read_sections.Goals as goal

pub returns : goal.returns
returns c =
    grind (arith, tells_along, file_of, comes_to (outside no_sections) c.args.text.now, no_sections, section_or_end, comes_to, file_ends, c.loop-sections.invariant, c.in_ok-read_next.ensures.read, c.if-branch.false, c.into_file.ensures)
