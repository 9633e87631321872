use Rattle.std.proofs.Common.{arith}
use Rattle.fst_gen.specs.Kinds.{CrossesWest}
use Rattle.fst_gen.proofs.lemmas.Steps.{Below-step, Below-all, west_in}
use Rattle.fst_gen.proofs.crosses.cross_all.Goals as goal

pub loop-west-preserved : goal.loop-west-preserved
loop-west-preserved c = Below-step c.args.grid.now c.args.most CrossesWest c.loop-west.west c.args.trees.now c.loop-west.trees _
    c.loop-west.invariant c.in_ok-cross_west.ensures

pub returns : goal.returns
returns c = Below-all c.args.grid.now c.args.most CrossesWest c.loop-west.west c.args.trees.now c.loop-west.trees (omega (arith, c.count-west-end.ensures))
    (λ i code kind wanted. west_in c.args.grid.now c.args.most i kind.1.0 kind.0 kind.1.1.0 code kind.1.1.1 wanted) c.loop-west.invariant
