use Rattle.std.proofs.Common.{take}
use Rattle.dual_ascent.specs.Costs.{raised_after}
use Rattle.dual_ascent.proofs.lemmas.EnteringLemmas.{ChangedSoFar}
use Rattle.dual_ascent.proofs.costs.ReducedCosts.raise.Given as goal

abbrev pub invariant-loop-e : goal.invariant-loop-e
invariant-loop-e l = ChangedSoFar raised_after l.fn.self l.cut.weight (take l.e-index l.entering) l.self
