use Rattle.std.proofs.Common.{◌++◌, length, map, take, ap, ◌∙◌, subst, arith}
use Rattle.std.proofs.lemmas.List.Elements.{All-more}
use Rattle.answer_text.specs.LineKinds as line
use Rattle.answer_text.specs.Lines.{line_text, lines_text}
use Rattle.answer_text.specs.Spelling.{FitsWeight}
use Rattle.answer_text.proofs.lemmas.Lengths.{cut_lines-more, sum_more}
use Rattle.answer_text.proofs.length.cuts_len.Goals as goal

pub loop-cut-preserved : goal.loop-cut-preserved
loop-cut-preserved c = record {
  length =
      let front = lines_text (map line.Cut (take c.loop-cut.cut-index c.args.cuts.now)) in
      let more = cut_lines-more c.args.cuts.now c.loop-cut.cut-index c.cut-item.result c.loop-cut-test.true in
      sum_more front _ _ c.loop-cut.sum c.cut_len-sum.result c.loop-cut.invariant.length c.cut_len-sum.ensures.length (ap (λ d. front ++ line_text (line.Cut d)) c.cut-item.is ∙ more);
  short =
      let small = c.requires.small c.loop-cut.cut-index c.cut-item.result c.loop-cut-test.true in
      let size = ap (λ d. length d.members) c.cut-item.is in
      omega arith;
  fits = All-more FitsWeight c.args.cuts.now c.loop-cut.cut-index c.cut-item.result c.loop-cut-test.true c.loop-cut.invariant.fits (subst FitsWeight c.cut-item.is c.cut_len-sum.ensures.fits);
}
