-- The next note's leaf is open, and where there is none the search is settled.
use Rattle.std.proofs.Common.{◌<◌, List, length, subst, arith}
use Rattle.cert_tree.specs.Preorder.{packings_of}
use Rattle.branch.specs.declared.note.LeafNote.{LeafNote}
use Rattle.branch.specs.Notes.{IsNextNote}
use Rattle.branch.proofs.lemmas.ReaderLemmas.{IfNone-holds, next_within}
use Rattle.branch.proofs.lemmas.SettledLemmas.{settled, next_is_open}
use Rattle.branch.proofs.branch_and_bound.Search.next_open.Goals as goal

pub returns-in_err-place-clause-none : goal.returns-in_err-place-clause-none
returns-in_err-place-clause-none _ c = grind (arith, IfNone-holds, settled)

pub prove-unreachable-requires : goal.prove-unreachable-requires
prove-unreachable-requires _ c =
    let next = subst (λ (xs : List LeafNote). IsNextNote c.self.inside.kept.best.length xs c.in_ok-place.place)
    c.as_slice.ensures.value c.in_ok-place.ensures.open in
    let within : c.in_ok-place.place < length (packings_of c.self.inside.kept.tree) =
    next_within _ _ c.in_ok-place.place c.self.invariant next in
    let count = c.leaves-count.ensures in
    omega arith

pub returns-clause-open : goal.returns-clause-open
returns-clause-open _ c = grind (arith, next_is_open)

pub returns-clause-within : goal.returns-clause-within
returns-clause-within _ c = grind arith
