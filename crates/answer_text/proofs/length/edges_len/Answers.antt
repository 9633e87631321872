use Rattle.answer_text.proofs.lemmas.Lengths.{sum_more}
use Rattle.std.proofs.Common.{arith}
use Rattle.answer_text.specs.LineKinds as line
use Rattle.answer_text.proofs.lemmas.NetworkLemmas.{lines-other, lines-member, names-member, names-other}
use Rattle.answer_text.proofs.length.edges_len.Goals as goal
use Rattle.answer_text.proofs.length.edges_len.Goals.{then-has, else-has}

pub loop-e-preserved : goal.loop-e-preserved
loop-e-preserved g c =
    grind (arith, then-has, sum_more, lines-member, g.L.Labelled.labels c.args.of.now, names-member, g.L.Labelled.form c.args.of.now, else-has, lines-other, names-other)
