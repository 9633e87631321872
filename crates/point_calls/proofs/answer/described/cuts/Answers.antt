use Rattle.std.proofs.Common.{All, [], ◌∷◌, ◌++◌}
use Rattle.std.proofs.lemmas.List.Elements.{All-push}
use Rattle.hanan_grid.specs.Grid.{hanan_grid_of}
use Rattle.answer_text.specs.Answers.{IsCutOn}
use Rattle.point_calls.proofs.answer.described.cuts.Goals as goal

pub loop-line-preserved : goal.loop-line-preserved
loop-line-preserved c =
    let on = IsCutOn (hanan_grid_of c.args.grid.now) in
    let more : All on (c.loop-line.cuts ++ c.in_ok-cut.field-0 ∷ []) =
    All-push on c.loop-line.cuts c.in_ok-cut.field-0 c.loop-line.invariant c.in_ok-cut.ensures in
    rw c.in_ok-push.ensures.ok more
