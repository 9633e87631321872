use Rattle.std.proofs.Common.{◌≤◌, [], length}
use Rattle.std.specs.List.{AllByRecursion}
use Rattle.stp_format.specs.Value.{IsEdge}
use Rattle.stp_format.specs.Sections.{Sections, in_graph, listing}
use Rattle.stp_format.specs.Left.{told, LeadsTo}
use Rattle.stp_format.proofs.graph.read_edges.Given as goal

abbrev pub invariant-loop-edges : goal.invariant-loop-edges
invariant-loop-edges l = record {
  leads : (s : Sections) → LeadsTo (in_graph s (listing l.nodes l.due [])) l.fn.text (in_graph s (listing l.nodes l.due l.edges)) l.text;
  are : AllByRecursion (IsEdge l.nodes) l.edges;
  shorter : length (told l.text) ≤ length (told l.fn.text);
}

abbrev pub decreases-loop-edges : goal.decreases-loop-edges
decreases-loop-edges l = length (told l.text)
