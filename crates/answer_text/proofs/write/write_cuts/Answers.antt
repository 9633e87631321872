use Rattle.std.proofs.Common.{◌++◌, map, take, ap, ◌∙◌}
use Rattle.text_out.specs.GatherLaws.{gathers_two}
use Rattle.answer_text.specs.LineKinds as line
use Rattle.answer_text.specs.Lines.{line_text, lines_text}
use Rattle.answer_text.proofs.lemmas.Lengths.{cut_lines-more}
use Rattle.answer_text.proofs.write.write_cuts.Goals as goal

pub loop-cut-preserved : goal.loop-cut-preserved
loop-cut-preserved g c =
    let more = cut_lines-more c.args.cuts.now c.loop-cut.cut-index c.cut-item.result c.loop-cut-test.true in
    gathers_two _ _ _ _ _ _ _ _ _ c.loop-cut.invariant c.write_cut.ensures
    (ap (λ d. lines_text (map line.Cut (take c.loop-cut.cut-index c.args.cuts.now)) ++ line_text (line.Cut d)) c.cut-item.is ∙ more)
