use Rattle.full_tree.specs.OrderLaws.{tree_cmp_total, same_tree, in_file_order_by_neighbours}
use Rattle.full_tree.proofs.order_laws.file_order_is_total.Goals as goal

pub returns-clause-total : goal.returns-clause-total
returns-clause-total c = tree_cmp_total

pub returns-clause-same : goal.returns-clause-same
returns-clause-same c = same_tree

pub returns-clause-by_neighbours : goal.returns-clause-by_neighbours
returns-clause-by_neighbours c = in_file_order_by_neighbours
