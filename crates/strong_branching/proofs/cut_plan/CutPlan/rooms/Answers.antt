-- What a packing leaves has as many parts as the graph has edges.
use Rattle.dual_ascent.specs.CostLaws.{length-left}
use Rattle.strong_branching.proofs.cut_plan.CutPlan.rooms.Goals as goal

pub rooms_by-requires-clause-costs : goal.rooms_by-requires-clause-costs
rooms_by-requires-clause-costs c = length-left _ _ _ _ c.requires.decision c.requires.costs
