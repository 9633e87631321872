use Rattle.std.proofs.Common.{arith}
use Rattle.lists.specs.ListLaws.{flat_map-take_more}
use Rattle.text_out.specs.GatherLaws.{gathers_two}
use Rattle.obstacle_grid.specs.Text.{terminal_text}
use Rattle.obstacle_grid.proofs.write.write_terminal_lines.Goals as goal

pub loop-place-preserved : goal.loop-place-preserved
loop-place-preserved g c =
    grind (arith, gathers_two, flat_map-take_more terminal_text c.args.g.now.terminals c.loop-place.place c.terminal.result c.terminal.ensures.vertex)
