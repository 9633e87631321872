-- What an ascent leaves has as many parts as the graph has edges.
use Rattle.dual_ascent.specs.CostLaws.{length-left}
use Rattle.strong_branching.proofs.leaf.Leaf.child_by.Goals as goal

pub relevant_arcs-requires-clause-costs : goal.relevant_arcs-requires-clause-costs
relevant_arcs-requires-clause-costs _ c = length-left _ _ _ _ c.requires.now (c.in_ok-ascent.ensures.costs c.if-ascent.false)
