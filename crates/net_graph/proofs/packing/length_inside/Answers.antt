use Rattle.std.proofs.Common.{arith}
use Rattle.std.proofs.lemmas.Bool.{iff_false}
use Rattle.net_graph.specs.PackingLaws.{inside_length_yes, inside_length_no, inside_length_yes-le-sum}
use Rattle.net_graph.proofs.packing.length_inside.Goals as goal
use Rattle.net_graph.proofs.packing.length_inside.Goals.{then-is_inside, else-is_inside}

pub overflow_add-sum : goal.overflow_add-sum
overflow_add-sum c =
    grind (arith, c.is_inside.ensures.0 c.if-is_inside.true, inside_length_yes-le-sum)

pub loop-n-preserved : goal.loop-n-preserved
loop-n-preserved c = grind (arith, then-is_inside, inside_length_yes, else-is_inside, inside_length_no, iff_false)
