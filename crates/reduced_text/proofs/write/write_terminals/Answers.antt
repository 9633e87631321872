use Rattle.text_out.specs.GatherLaws.{gathers_two}
use Rattle.reduced_text.proofs.lemmas.Texts.{number_more}
use Rattle.reduced_text.proofs.write.write_terminals.Goals as goal

pub loop-place-preserved : goal.loop-place-preserved
loop-place-preserved g c = gathers_two _ _ _ _ _ _ _ _ _ c.loop-place.invariant c.write_number.ensures
    (number_more c.args.graph.now.terminals c.loop-place.place c.terminal.result c.terminal.ensures.vertex)
