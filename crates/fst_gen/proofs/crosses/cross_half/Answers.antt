use Rattle.std.proofs.Common.{arith}
use Rattle.fst_gen.specs.Kinds.{IsCrossOf}
use Rattle.fst_gen.proofs.lemmas.Steps.{Below-step, Below-all, north_in, Crosses-beside}
use Rattle.fst_gen.proofs.crosses.cross_half.Goals as goal

pub returns-then-not-go_right : goal.returns-then-not-go_right
returns-then-not-go_right c = grind (arith, Crosses-beside)

pub loop-north-preserved : goal.loop-north-preserved
loop-north-preserved c = Below-step c.args.grid.now c.args.most (IsCrossOf c.args.west c.args.east c.args.south) c.loop-north.north c.args.trees.now c.loop-north.trees _
    c.loop-north.invariant c.in_ok-try_code.ensures

pub returns : goal.returns
returns c = Below-all c.args.grid.now c.args.most (IsCrossOf c.args.west c.args.east c.args.south) c.loop-north.north c.args.trees.now c.loop-north.trees (omega (arith, c.count-north-end.ensures))
    (λ i code kind wanted. north_in c.args.grid.now c.args.most c.args.west c.args.south c.args.east i code kind wanted) c.loop-north.invariant
