use Rattle.std.proofs.Common.{arith}
use Rattle.tree_judge.proofs.lemmas.Leaves.{IsLeafOf-below, LoadsBelow-none}
use Rattle.tree_judge.proofs.leaf.load_arcs.Goals as goal

pub returns-in-Some-clause-fault : goal.returns-in-Some-clause-fault
returns-in-Some-clause-fault g c cuts cut leaf =
    c.in-Some.ensures.fault cuts cut (c.loop-place.invariant.loads cuts leaf)

pub loop-place-init : goal.loop-place-init
loop-place-init g c = grind (arith, LoadsBelow-none, g.B.Border.before c.args.g.now c.args.border.now 0)

pub loop-place-preserved : goal.loop-place-preserved
loop-place-preserved g c = grind arith

pub returns-clause-leaf : goal.returns-clause-leaf
returns-clause-leaf g c cuts leaf =
    grind (arith, IsLeafOf-below, g.B.Border.before c.args.g.now c.args.border.now c.loop-place.place, c.loop-place.invariant.loads cuts leaf)
