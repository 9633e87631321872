use Rattle.tree_inputs.proofs.GenerationLaws.{file_trees}
use Rattle.tree_inputs.proofs.generation.trees_of.Goals as goal

pub invariant_of-result : goal.invariant_of-result
invariant_of-result c =
    file_trees c.lengths_are_within_the_grid.ensures c.args.grid c.args.k c.in-Ok.trees c.graph-graph.ensures.sound.total
    c.in-Ok.ensures.trees c.in-Ok.ensures.few
