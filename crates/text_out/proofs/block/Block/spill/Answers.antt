use Rattle.text_out.specs.GatherLaws.{gathers_more, gathers_waiting}
use Rattle.text_out.proofs.block.Block.spill.Goals as goal

pub returns-then-has_room : goal.returns-then-has_room
returns-then-has_room g c =
    gathers_more _ _ _ _ _ _ _ _ c.flush.ensures.gathers (gathers_waiting _ _ _ _ c.append.ensures)

pub returns-else-has_room : goal.returns-else-has_room
returns-else-has_room g c = gathers_more _ _ _ _ _ _ _ _ c.flush.ensures.gathers c.pass.ensures
