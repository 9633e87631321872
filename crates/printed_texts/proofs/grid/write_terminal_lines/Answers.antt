use Rattle.lists.specs.ListLaws.{flat_map-take_more}
use Rattle.text_out.specs.GatherLaws.{gathers_two}
use Rattle.printed_texts.specs.Grid.{terminal_at}
use Rattle.printed_texts.proofs.grid.write_terminal_lines.Goals as goal

pub loop-place-preserved : goal.loop-place-preserved
loop-place-preserved g c =
    gathers_two _ _ _ _ _ _ _ _ _ c.loop-place.invariant c.write_terminal.ensures
    (flat_map-take_more terminal_at c.args.graph.now.terminals c.loop-place.place c.terminal.result c.terminal.ensures.vertex)
