use Rattle.std.proofs.Common.{arith}
use Rattle.fst_concat.specs.Levels.{layers_of}
use Rattle.fst_concat.proofs.bound.least_under.Goals as goal

pub returns-clause-least : goal.returns-clause-least
returns-clause-least c = λ set joins respects.
    let bounded = c.partition_bound.ensures c.args.points 12 c.args.trees.now c.args.choices.now (layers_of c.args.points c.args.levels.now) set
    c.requires.size (c.packs.ensures c.if-not-packs.false) joins respects in
    rw (c.div_ceil.ensures, c.from.ensures)
    (omega arith)
