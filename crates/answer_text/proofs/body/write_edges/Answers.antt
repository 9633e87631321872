use Rattle.std.proofs.Common.{arith}
use Rattle.text_out.specs.GatherLaws.{gathers_two}
use Rattle.answer_text.proofs.lemmas.NetworkLemmas.{lines-member, lines-other}
use Rattle.answer_text.proofs.body.write_edges.Goals as goal
use Rattle.answer_text.proofs.body.write_edges.Goals.{then-has, else-has}

pub loop-e-preserved : goal.loop-e-preserved
loop-e-preserved g c =
    grind (arith, then-has, lines-member, g.L.Labelled.labels c.args.of.now, gathers_two, else-has, lines-other)
