use Rattle.std.proofs.Common.{◌≤◌, length}
use Rattle.stp_format.specs.Sections.{Sections, in_comment}
use Rattle.stp_format.specs.Left.{told, LeadsTo}
use Rattle.stp_format.proofs.section.skip_comment.Given as goal

abbrev pub invariant-loop : goal.invariant-loop
invariant-loop l = record {
  leads : (s : Sections) → LeadsTo (in_comment s) l.fn.text (in_comment s) l.text;
  shorter : length (told l.text) ≤ length (told l.fn.text);
}

abbrev pub decreases-loop : goal.decreases-loop
decreases-loop l = length (told l.text)
