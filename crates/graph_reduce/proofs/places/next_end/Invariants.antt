use Rattle.std.specs.BTreeSet.{btree_set_len}
use Rattle.graph_reduce.specs.Survey.{HasPlacesOf}
use Rattle.graph_reduce.proofs.places.next_end.Given as goal

abbrev pub invariant-loop-place : goal.invariant-loop-place
invariant-loop-place l = HasPlacesOf l.work l.v l.places

abbrev pub decreases-loop-place : goal.decreases-loop-place
decreases-loop-place l = btree_set_len l.places
