use Rattle.tree_inputs.proofs.GenerationLaws.{file_trees}
use Rattle.tree_inputs.proofs.tree_lists.longer_list.Goals as goal

pub returns-in-Ok : goal.returns-in-Ok
returns-in-Ok c = (
  record { exact = c.in-Ok.ensures.trees; few = c.in-Ok.ensures.few; joins = c.in-Ok.ensures.joins },
  file_trees c.lengths_are_within_the_grid.ensures c.args.grid.now 8 c.in-Ok.trees c.graph-graph.ensures.sound.total
      c.in-Ok.ensures.trees c.in-Ok.ensures.few,
)
