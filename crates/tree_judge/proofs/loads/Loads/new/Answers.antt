use Rattle.std.proofs.Common.{arith}
use Rattle.tree_judge.proofs.lemmas.ArcLoads.{AreLoads-none}
use Rattle.tree_judge.proofs.loads.Loads.new.Goals as goal

pub invariant_of-result : goal.invariant_of-result
invariant_of-result c = grind (arith, AreLoads-none c.args.edges)
