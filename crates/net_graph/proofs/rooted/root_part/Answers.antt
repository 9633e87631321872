use Rattle.std.proofs.Common.{arith, length-set, true}
use Rattle.std.proofs.lemmas.Bool.{iff_false}
use Rattle.std.proofs.lemmas.Option.{slice_get_within}
use Rattle.net_graph.proofs.lemmas.RootedLemmas.{HoldsBelow-yes, HoldsBelow-no, HoldsBelow-all}
use Rattle.net_graph.proofs.rooted.root_part.Goals as goal
use Rattle.net_graph.proofs.rooted.root_part.Goals.{then-is_in_root_part, else-is_in_root_part}

pub loop-n-preserved : goal.loop-n-preserved
loop-n-preserved c =
    grind (arith, then-is_in_root_part, HoldsBelow-yes, length-set c.loop-n.part (c.loop-n.n) true, else-is_in_root_part, HoldsBelow-no, iff_false)

pub returns-clause-part : goal.returns-clause-part
returns-clause-part c = grind (arith, HoldsBelow-all, slice_get_within)
