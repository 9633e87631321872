-- One more edge, which is counted at its ends or isn't in the set.
use Rattle.std.proofs.Common.{arith}
use Rattle.std.proofs.lemmas.List.{with_items_is, length-take}
use Rattle.branch.proofs.lemmas.MeetingLemmas.{counted_more, counted_kept, edges_at-le}
use Rattle.branch.proofs.split_choice.edges_at_vertices.Goals as goal
use Rattle.branch.proofs.split_choice.edges_at_vertices.Goals.{then-has, else-has}

pub count_ends-requires-clause-few : goal.count_ends-requires-clause-few
count_ends-requires-clause-few c = grind (arith, edges_at-le, length-take)

pub loop-e-preserved : goal.loop-e-preserved
loop-e-preserved c = grind (arith, then-has, with_items_is, counted_more, else-has, counted_kept)
