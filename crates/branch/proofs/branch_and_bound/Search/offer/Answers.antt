-- A shorter network makes a search of one.
use Rattle.std.proofs.Common.{refl}
use Rattle.branch.proofs.lemmas.OfferedLemmas.{offered_search}
use Rattle.branch.proofs.branch_and_bound.Search.offer.Goals as goal

pub invariant_of-self : goal.invariant_of-self
invariant_of-self _ c =
    offered_search _ c.self.inside.kept _ c.of-best.result c.self.invariant c.of-best.ensures.best c.if-best-self.true refl
