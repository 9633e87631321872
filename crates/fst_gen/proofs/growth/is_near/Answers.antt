use Rattle.std.proofs.Common.{refl, arith, ap, ◌∙◌}
use Rattle.full_tree.specs.PassingLaws.{within-from}
use Rattle.hanan_grid.specs.Distance.{distance_between}
use Rattle.fst_gen.proofs.lemmas.Steps.{IsBottleneck-there}
use Rattle.fst_gen.proofs.growth.is_near.Goals as goal

pub returns-then-gap-from : goal.returns-then-gap-from
returns-then-gap-from c = (
  λ said. absurd cc,
  λ within.
      let far = c.gap.ensures.value ∙ ap (distance_between c.args.prefix.now.foot) c.foot-corner.ensures in
      let b = IsBottleneck-there c.args.points.now c.args.table.now c.args.prefix.now.last c.from.result c.args.tip c.from-2.result c.between-most.result
      c.requires.points c.from.ensures c.from-2.ensures c.between-most.ensures in
      absurd (omega (arith, within c.between-most.result b, far, c.from-3.ensures)),
)

pub returns : goal.returns
returns c = (
  λ said.
      let far = c.gap.ensures.value ∙ ap (distance_between c.args.prefix.now.foot) c.foot-corner.ensures in
      within-from c.args.points.now c.args.prefix.now.last c.args.tip c.between-most.result _
      (IsBottleneck-there c.args.points.now c.args.table.now c.args.prefix.now.last c.from.result c.args.tip c.from-2.result c.between-most.result
      c.requires.points c.from.ensures c.from-2.ensures c.between-most.ensures) (omega (arith, far, c.from-3.ensures)),
  λ within. refl,
)
