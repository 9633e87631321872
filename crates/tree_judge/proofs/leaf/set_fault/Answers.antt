use Rattle.std.proofs.Common.{arith}
use Rattle.tree_judge.proofs.lemmas.Idle.{idle_without}
use Rattle.tree_judge.proofs.leaf.set_fault.Goals as goal

pub returns-then-not-holds_required-clause-fault : goal.returns-then-not-holds_required-clause-fault
returns-then-not-holds_required-clause-fault c cuts weight = grind (arith, idle_without)
