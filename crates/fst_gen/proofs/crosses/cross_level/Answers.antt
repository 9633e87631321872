use Rattle.std.proofs.Common.{arith}
use Rattle.fst_gen.specs.Kinds.{CrossesHalf}
use Rattle.fst_gen.proofs.lemmas.Steps.{Below-step, Below-all, south_in, Crosses-none}
use Rattle.fst_gen.proofs.crosses.cross_level.Goals as goal

pub returns-then-not-are_level : goal.returns-then-not-are_level
returns-then-not-are_level c = grind (arith, Crosses-none)

pub loop-south-preserved : goal.loop-south-preserved
loop-south-preserved c = Below-step c.args.grid.now c.args.most (CrossesHalf c.args.west c.args.east) c.loop-south.south c.args.trees.now c.loop-south.trees _
    c.loop-south.invariant c.in_ok-cross_half.ensures

pub returns : goal.returns
returns c = Below-all c.args.grid.now c.args.most (CrossesHalf c.args.west c.args.east) c.loop-south.south c.args.trees.now c.loop-south.trees (omega (arith, c.count-south-end.ensures))
    (λ i code kind wanted. south_in c.args.grid.now c.args.most c.args.west i c.args.east kind.0 code kind.1 wanted) c.loop-south.invariant
