use Rattle.std.proofs.Common.{◌<◌, length, ap, arith}
use Rattle.std.proofs.lemmas.Bool.{iff_false}
use Rattle.std.proofs.lemmas.Option.{get_or_from_slice_get}
use Rattle.net_graph.specs.declared.edge.Edge.{Edge}
use Rattle.net_graph.specs.PackingLaws.{inside_length_yes, inside_length_no, inside_length_yes-le-sum}
use Rattle.tree_judge.proofs.way.length_inside.Goals as goal
use Rattle.tree_judge.proofs.way.length_inside.Goals.{then-is_inside, else-is_inside}

pub overflow_add-sum : goal.overflow_add-sum
overflow_add-sum c =
    grind (
      arith,
      c.is_inside.ensures.0 c.if-is_inside.true,
      get_or_from_slice_get c.args.g.now.edges c.loop-n.n (c.edge-sum.result) (c.edge-sum.result) c.edge-sum.ensures.edge,
      inside_length_yes-le-sum,
    )

pub loop-n-preserved : goal.loop-n-preserved
loop-n-preserved c =
    let below : c.loop-n.n < length c.args.g.now.edges = omega arith in
    elim c.if-is_inside.branch [
      | then-is_inside w ↦
          let e = w.edge-sum.result in
          let same = ap (λ (x : Edge). x.length) (get_or_from_slice_get c.args.g.now.edges c.loop-n.n e e w.edge-sum.ensures.edge) in
          omega (arith, same, inside_length_yes c.args.g.now.edges c.args.decided.now.edges c.loop-n.n e below (c.is_inside.ensures.0 w.if-is_inside.true))
      | else-is_inside w ↦
          omega (arith, inside_length_no c.args.g.now.edges c.args.decided.now.edges c.loop-n.n (iff_false c.is_inside.ensures w.if-is_inside.false))
    ]
