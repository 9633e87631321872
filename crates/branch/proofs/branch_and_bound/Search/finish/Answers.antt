-- What is found is true.
use Rattle.std.proofs.Common.{◌≡◌, List, IsTrue, ◌↔◌, subst, eqb, rules}
use Rattle.branch.specs.declared.note.LeafNote.{LeafNote}
use Rattle.branch.specs.Searching.{SearchState}
use Rattle.branch.specs.Solving.{IsSolved}
use Rattle.branch.specs.Notes.{IsLesserOfNotes}
use Rattle.branch.proofs.lemmas.SettledLemmas.{solved_is}
use Rattle.branch.proofs.branch_and_bound.Search.finish.Goals as goal

pub returns-clause-solved : goal.returns-clause-solved
returns-clause-solved _ c =
    let agree : IsTrue (eqb c.bound_of-bound.result c.self.inside.kept.best.length) ↔ (c.bound_of-bound.result ≡ c.self.inside.kept.best.length) = search rules in
    subst (λ (s : SearchState). IsSolved s.graph s.first_length (record {
      network = c.self.inside.kept.best.network;
      length = c.self.inside.kept.best.length;
      bound = c.bound_of-bound.result;
      optimal = eqb c.bound_of-bound.result c.self.inside.kept.best.length;
      tree = c.self.inside.kept.tree;
    })) c.self.view_is
    (solved_is _ _ c.self.invariant _ _
    (subst (λ (xs : List LeafNote). IsLesserOfNotes c.self.inside.kept.best.length xs c.bound_of-bound.result) c.as_slice.ensures.value c.bound_of-bound.ensures)
    agree c.tree_bounds_every_network.ensures)
