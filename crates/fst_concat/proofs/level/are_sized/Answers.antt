use Rattle.std.proofs.Common.{◌≡◌, length, arith}
use Rattle.fst_concat.proofs.lemmas.Levels.{All-layers}
use Rattle.fst_concat.proofs.level.are_sized.Goals as goal

pub returns : goal.returns
returns c = λ yes. All-layers (λ layer. length layer.labels ≡ c.args.points) c.args.points c.args.levels.now
    (λ k d within. c.loop-level.invariant k d (omega arith))
