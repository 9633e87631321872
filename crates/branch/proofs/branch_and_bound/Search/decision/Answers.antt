-- What is kept of a leaf's decision is the leaf's.
use Rattle.std.proofs.Common.{subst, arith}
use Rattle.branch.specs.Searching.{SearchState, IsDecidedAt}
use Rattle.branch.proofs.lemmas.ReaderLemmas.{note_within, is_decided}
use Rattle.branch.proofs.branch_and_bound.Search.decision.Goals as goal

pub index-requires : goal.index-requires
index-requires _ c = grind (arith, note_within)

pub returns : goal.returns
returns _ c =
    let within = note_within _ _ _ c.args.leaf c.self.invariant c.self.view_is c.requires in
    subst (λ (s : SearchState). IsDecidedAt s c.args.leaf c.index.result.now.decision) c.self.view_is
    (is_decided _ _ c.args.leaf c.index.result.now c.self.invariant within c.index.ensures)
