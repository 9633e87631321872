use Rattle.std.proofs.Common.{◌≤◌, arith}
use Rattle.concatenation.specs.Partitions.{touched_count}
use Rattle.fst_concat.proofs.lemmas.Levels.{All-layers}
use Rattle.fst_concat.proofs.level.lies_inside.Goals as goal

pub returns : goal.returns
returns c = λ yes. All-layers (λ layer. touched_count layer.labels c.args.tree.now ≤ 1) c.args.points c.args.levels.now
    (λ k d within. c.loop-level.invariant k d (omega arith))
