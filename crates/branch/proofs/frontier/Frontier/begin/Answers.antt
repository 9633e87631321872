-- A search begins with one leaf.
use Rattle.std.proofs.Common.{◌∙◌, ap, List, [], ◌∷◌, ◌++◌}
use Rattle.branch.specs.declared.note.LeafNote.{LeafNote}
use Rattle.branch.proofs.lemmas.SearchLemmas.{search_begun}
use Rattle.branch.proofs.frontier.Frontier.begin.Goals as goal

pub returns-clause-search : goal.returns-clause-search
returns-clause-search c = search_begun _ _ _ _ c.in_ok-best.ensures.best c.in_ok-best.ensures.no_longer c.in_ok-tree.ensures
    (c.push_reserved.ensures.items ∙ ap (λ (xs : List LeafNote). xs ++ c.args.leaf.note ∷ []) c.in_ok-notes.ensures.items) c.requires.note c.in_ok-best.ensures.own
