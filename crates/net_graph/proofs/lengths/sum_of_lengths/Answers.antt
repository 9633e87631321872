use Rattle.std.proofs.Common.{false, slice_index_or, arith}
use Rattle.net_graph.proofs.lemmas.LengthLemmas.{length_with_flag, length_without_flag, length_with_flag-le-sum}
use Rattle.net_graph.proofs.lengths.sum_of_lengths.Goals as goal
use Rattle.net_graph.proofs.lengths.sum_of_lengths.Goals.{then-has, else-has}

pub overflow_add-sum : goal.overflow_add-sum
overflow_add-sum c = grind (arith, slice_index_or c.args.set.now c.loop-n.n false, length_with_flag-le-sum)

pub loop-n-preserved : goal.loop-n-preserved
loop-n-preserved c = grind (arith, then-has, length_with_flag, else-has, length_without_flag)
