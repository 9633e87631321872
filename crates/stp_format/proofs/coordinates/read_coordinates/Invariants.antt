use Rattle.std.proofs.Common.{◌≤◌, [], length}
use Rattle.stp_format.specs.Sections.{Sections, in_coordinates}
use Rattle.stp_format.specs.Left.{told, LeadsTo}
use Rattle.stp_format.proofs.coordinates.read_coordinates.Given as goal

abbrev pub invariant-loop-points : goal.invariant-loop-points
invariant-loop-points l = record {
  leads : (s : Sections) → LeadsTo (in_coordinates s l.nodes []) l.fn.text (in_coordinates s l.nodes l.points) l.text;
  shorter : length (told l.text) ≤ length (told l.fn.text);
}

abbrev pub decreases-loop-points : goal.decreases-loop-points
decreases-loop-points l = length (told l.text)
