-- What a packing leaves has as many parts as the graph has edges.
use Rattle.dual_ascent.specs.CostLaws.{length-left}
use Rattle.strong_branching.proofs.leaf.Leaf.relevant.Goals as goal

pub relevant_arcs-requires-clause-costs : goal.relevant_arcs-requires-clause-costs
relevant_arcs-requires-clause-costs c = length-left _ _ _ _ c.requires.decision c.requires.costs
