use Rattle.std.proofs.Common.{length, ◌≤◌, subst}
use Rattle.tree_inputs.proofs.PruningLaws.{kept_or_not, small_trees}
use Rattle.tree_inputs.proofs.pruning.kept_trees.Goals as goal

pub prune-requires-clause-small : goal.prune-requires-clause-small
prune-requires-clause-small c =
    small_trees c.args.grid.now c.args.trees.now
    (subst (λ ps. length ps ≤ 50) c.points.ensures c.len-points.ensures.few) c.requires

pub returns-clause-trees : goal.returns-clause-trees
returns-clause-trees c =
    kept_or_not c.args.grid.now c.args.trees.now c.prune.result c.requires c.prune.ensures.among c.prune.ensures.few
    c.prune.ensures.order
