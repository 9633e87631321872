use Rattle.std.proofs.Common.{refl, arith}
use Rattle.full_tree.specs.PassingLaws.{IsBottleneck-at}
use Rattle.full_tree.proofs.lemmas.Passing.{HasGoneBack-down, HasGoneBack-fails}
use Rattle.full_tree.proofs.passing.keeps_up_to.Goals as goal

pub returns-then-max-from : goal.returns-then-max-from
returns-then-max-from c = (
  λ said. absurd cc,
  λ keeps. absurd (omega (
    arith,
    HasGoneBack-fails c.args.table.now c.args.stations.now c.loop-first.first c.args.last c.loop-first.greatest
        c.max-greatest.result c.between-most.result (omega arith) c.loop-first.invariant.0 (omega (arith, c.max-greatest.ensures, c.from.ensures)) (IsBottleneck-at c.args.table.now _ _ _ _ _ c.from.ensures c.from-in-loop-first.ensures c.between-most.ensures) keeps,
  )),
)

pub loop-first-preserved : goal.loop-first-preserved
loop-first-preserved c = (
  HasGoneBack-down c.args.table.now c.args.stations.now c.loop-first.first c.args.last c.loop-first.greatest
      c.max-greatest.result c.between-most.result (omega arith) c.loop-first.invariant.0 (omega arith) (IsBottleneck-at c.args.table.now _ _ _ _ _ c.from.ensures c.from-in-loop-first.ensures c.between-most.ensures) (omega arith),
  refl,
)

pub returns : goal.returns
returns c = (
  λ said a under. c.loop-first.invariant.0.kept a (omega arith) under,
  λ keeps. refl,
)
