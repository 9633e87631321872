use Rattle.std.proofs.Common.{◌≤◌, length}
use Rattle.std.specs.Prelude.{IsTrue}
use Rattle.std.specs.List.{AllByRecursion}
use Rattle.stp_format.specs.Value.{is_node}
use Rattle.stp_format.specs.Sections.{Sections, in_terminals, uncounted, naming}
use Rattle.stp_format.specs.Left.{told, LeadsTo}
use Rattle.stp_format.proofs.terminals.read_terminals.Given as goal

abbrev pub invariant-loop-terminals : goal.invariant-loop-terminals
invariant-loop-terminals l = record {
  leads : (s : Sections) → LeadsTo (in_terminals s l.nodes uncounted) l.fn.text (in_terminals s l.nodes (naming l.due l.terminals)) l.text;
  are : AllByRecursion (λ i. IsTrue (is_node l.nodes i)) l.terminals;
  shorter : length (told l.text) ≤ length (told l.fn.text);
}

abbrev pub decreases-loop-terminals : goal.decreases-loop-terminals
decreases-loop-terminals l = length (told l.text)
