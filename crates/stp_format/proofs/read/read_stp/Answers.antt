-- The lines behind a right first line come to what the bytes come to.
use Rattle.std.proofs.Common.{arith}
use Rattle.stp_format.specs.Reading.{stp_of}
use Rattle.stp_format.specs.Sections.{no_sections, outside}
use Rattle.stp_format.specs.Left.{comes_to}
use Rattle.stp_format.proofs.lemmas.Ends.{magic_leads, fault_given}
use Rattle.stp_format.proofs.read.read_stp.Goals as goal

pub returns-in-Some-clause-fault : goal.returns-in-Some-clause-fault
returns-in-Some-clause-fault c =
    grind (arith, fault_given, comes_to (outside no_sections) c.next_line.new.self, no_sections, stp_of c.args.bytes.now, magic_leads, c.of-text.ensures.lines, c.in-Some.ensures.found, c.of-text.ensures.taken, c.in-Some.ensures.taken, c.is_magic.ensures, c.if-is_magic.true, c.read_sections.ensures)
