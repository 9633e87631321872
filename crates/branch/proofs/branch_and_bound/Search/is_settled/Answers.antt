-- No open leaf is found exactly where the search is settled.
use Rattle.branch.proofs.lemmas.TreeLemmas.{tree_value-le}
use Rattle.branch.proofs.lemmas.ListLemmas.{beside_right}
use Rattle.std.proofs.Common.{◌≤◌, ◌↔◌, All, IsTrue, List, subst, arith}
use Rattle.std.specs.Prelude.{IfNone, IfSome}
use Rattle.branch.specs.declared.note.LeafNote.{LeafNote}
use Rattle.branch.specs.Notes.{IsNextNote}
use Rattle.branch.specs.Searching.{IsSettled, SearchState}
use Rattle.branch.proofs.lemmas.SettledLemmas.{settled}
use Rattle.branch.proofs.branch_and_bound.Search.is_settled.Goals as goal

pub returns : goal.returns
returns _ c =
    let length = c.self.inside.kept.best.length in
    let found = c.next_open.result in
    let each = subst (λ (xs : List LeafNote). IfNone found (All (λ (note : LeafNote). length ≤ note.value) xs)) c.as_slice.ensures.value c.next_open.ensures.none in
    let next = subst (λ (xs : List LeafNote). IfSome found (IsNextNote length xs)) c.as_slice.ensures.value c.next_open.ensures.open in
    subst (λ (s : SearchState). IsTrue c.is_none.result ↔ IsSettled s) c.self.view_is
    (grind (arith, settled, beside_right, tree_value-le))
