use Rattle.std.proofs.Common.{arith}
use Rattle.std.proofs.lemmas.List.{take_more}
use Rattle.graph_reduce.proofs.lemmas.LeftLists.{left-some, left-none}
use Rattle.graph_reduce.proofs.left.renumbered_edges.Goals as goal
use Rattle.graph_reduce.proofs.left.renumbered_edges.Goals.{in-Some+in_ok-push, in_default}

pub loop-held-preserved : goal.loop-held-preserved
loop-held-preserved c =
    grind (arith, take_more c.args.edges.now (c.loop-held.held-index) c.held-item.result c.loop-held-test.true, in-Some+in_ok-push, left-some, in_default, left-none)
