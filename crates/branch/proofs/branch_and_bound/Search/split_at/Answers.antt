-- The opening on a chosen vertex is made.
use Rattle.std.proofs.Common.{subst}
use Rattle.branch.specs.Searching.{SearchState, search_state, IsSplitAt}
use Rattle.branch.proofs.lemmas.SearchLemmas.{search_opened, splits_to}
use Rattle.branch.proofs.lemmas.OpenedLemmas.{opens_within, opens_within_notes, opens_few}
use Rattle.branch.proofs.branch_and_bound.Search.split_at.Goals as goal

pub open-requires-clause-leaf : goal.open-requires-clause-leaf
open-requires-clause-leaf _ c = opens_within _ _ _ c.in_ok-opening.ensures.opening

pub open-requires-clause-note : goal.open-requires-clause-note
open-requires-clause-note _ c = opens_within_notes _ _ _ c.self.invariant c.in_ok-opening.ensures.opening

pub open-requires-clause-few : goal.open-requires-clause-few
open-requires-clause-few _ c = opens_few c.self.inside.kept _ c.self.inside.graph.now c.self.view_is c.requires.few

pub invariant_of-self-2 : goal.invariant_of-self-2
invariant_of-self-2 _ c = search_opened _ _ _ _ c.self.invariant c.in_ok-opening.ensures.opening c.in_ok-open.ensures.ok

pub returns-clause-ok : goal.returns-clause-ok
returns-clause-ok _ c =
    let after = search_state c.self.inside.graph.now c.open.new.self in
    subst (λ (s : SearchState). IsSplitAt c.args.leaf c.args.vertex s after) c.self.view_is
    (splits_to _ _ _ _ c.args.leaf c.args.vertex c.self.invariant c.in_ok-opening.ensures.opening
    c.in_ok-open.ensures.ok c.in_ok-opening.ensures.leaf c.in_ok-opening.ensures.on)
