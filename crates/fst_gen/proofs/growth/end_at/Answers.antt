use Rattle.std.proofs.Common.{◌∙◌, arith}
use Rattle.fst_gen.proofs.lemmas.Steps.{EndsAt-out, EndsAt-far, EndsAt-both}
use Rattle.fst_gen.proofs.growth.end_at.Goals as goal

pub returns-then-not-may_end_at : goal.returns-then-not-may_end_at
returns-then-not-may_end_at c = grind (arith, EndsAt-out)

pub returns-then-not-is_near : goal.returns-then-not-is_near
returns-then-not-is_near c = EndsAt-far c.args.grid.now c.as_slice-points.result.now c.args.most c.args.prefix.now c.args.tip c.args.trees.now
    (c.as_slice-points.ensures ∙ c.points.ensures) c.requires.prefix c.requires.store
    (λ near. let no = c.if-not-is_near.ensures.1 near in cc)

pub returns : goal.returns
returns c = EndsAt-both c.args.grid.now c.args.most c.args.prefix.now.root c.args.prefix.now.toward c.args.prefix.now.drops
    c.args.tip c.code_of.result c.args.trees.now c.try_code.new.trees _ c.hang_sides.result c.code_of.ensures c.in_ok-try_code.ensures c.hang_sides.ensures
