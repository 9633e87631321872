-- A step settles the search or makes an opening.
use Rattle.std.proofs.Common.{ℕ, List, sym, subst, arith}
use Rattle.branch.specs.declared.note.LeafNote.{LeafNote}
use Rattle.branch.specs.Notes.{IsNextNote}
use Rattle.branch.specs.PlainOpenings.{IsOpenNext}
use Rattle.branch.specs.Searching.{SearchState, search_state, OpensTo}
use Rattle.branch.proofs.lemmas.SearchLemmas.{search_opened, opens_to}
use Rattle.branch.proofs.lemmas.SettledLemmas.{settled, next_is_open}
use Rattle.branch.proofs.lemmas.OpenedLemmas.{opens_within, opens_within_notes, opens_few}
use Rattle.branch.proofs.branch_and_bound.Search.split_one.Goals as goal

pub returns-in_default-clause-step : goal.returns-in_default-clause-step
returns-in_default-clause-step _ c = grind (arith, settled)

pub open-requires-clause-leaf : goal.open-requires-clause-leaf
open-requires-clause-leaf _ c = opens_within _ _ _ c.in_ok-opening.ensures.opening

pub open-requires-clause-note : goal.open-requires-clause-note
open-requires-clause-note _ c = opens_within_notes _ _ _ c.self.invariant c.in_ok-opening.ensures.opening

pub open-requires-clause-few : goal.open-requires-clause-few
open-requires-clause-few _ c = opens_few c.self.inside.kept _ c.self.inside.graph.now c.self.view_is c.requires

pub invariant_of-self-2 : goal.invariant_of-self-2
invariant_of-self-2 _ c = search_opened _ _ _ _ c.self.invariant c.in_ok-opening.ensures.opening c.in_ok-open.ensures.ok

pub returns-clause-step : goal.returns-clause-step
returns-clause-step _ c =
    let kept = c.self.inside.kept in
    let next_note = subst (λ (xs : List LeafNote). IsNextNote kept.best.length xs c.in-Some.place)
    c.as_slice.ensures.value c.in-Some.ensures.open in
    let next : IsOpenNext c.self.inside.graph.now kept.best.network kept.tree c.in_ok-opening.opening.leaf =
    subst (λ (n : ℕ). IsOpenNext c.self.inside.graph.now kept.best.network kept.tree n) (sym c.in_ok-opening.ensures.leaf)
    (next_is_open _ _ c.self.invariant c.in-Some.place next_note) in
    subst (λ (s : SearchState). OpensTo s (search_state c.self.inside.graph.now c.open.new.self)) c.self.view_is
    (opens_to _ _ _ _ c.self.invariant c.in_ok-opening.ensures.opening c.in_ok-opening.ensures.plain next
    c.in_ok-open.ensures.ok)
