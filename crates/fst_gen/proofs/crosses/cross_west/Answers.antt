use Rattle.std.proofs.Common.{arith}
use Rattle.fst_gen.specs.Kinds.{CrossesLevel}
use Rattle.fst_gen.proofs.lemmas.Steps.{Below-step, Below-all, east_in}
use Rattle.fst_gen.proofs.crosses.cross_west.Goals as goal

pub loop-east-preserved : goal.loop-east-preserved
loop-east-preserved c = Below-step c.args.grid.now c.args.most (CrossesLevel c.args.west) c.loop-east.east c.args.trees.now c.loop-east.trees _
    c.loop-east.invariant c.in_ok-cross_level.ensures

pub returns : goal.returns
returns c = Below-all c.args.grid.now c.args.most (CrossesLevel c.args.west) c.loop-east.east c.args.trees.now c.loop-east.trees (omega (arith, c.count-east-end.ensures))
    (λ i code kind wanted. east_in c.args.grid.now c.args.most c.args.west kind.0 i kind.1.0 code kind.1.1 wanted) c.loop-east.invariant
