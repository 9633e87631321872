use Rattle.std.proofs.Common.{◌≡◌, ◌+◌, ◌-◌, subst, arith}
use Rattle.tree_judge.specs.Borders.{MarksParted}
use Rattle.tree_judge.proofs.lemmas.Marks.{bit_few, marks_more, whole_unless}
use Rattle.tree_judge.proofs.any_border.marks_from.Goals as goal

pub loop-n-preserved : goal.loop-n-preserved
loop-n-preserved c =
    let next : c.loop-n.n ≡ c.loop-n.n - 1 + 1 = omega arith in
    record {
      from = omega arith;
      marks = marks_more c.args.g.now c.args.members.now c.loop-n.marks c.from.result (c.loop-n.n - 1)
          (c.args.edge + c.args.count) (bit_few c.parts.result c.from.result c.from.ensures)
          (subst (λ n. MarksParted c.args.g.now c.args.members.now c.loop-n.marks n (c.args.edge + c.args.count)) next
          c.loop-n.invariant.marks)
          (whole_unless c.args.g.now c.args.members.now (c.loop-n.n - 1) c.edge.result c.parts.result c.from.result
          c.edge.ensures.edge c.from.ensures c.parts.ensures);
    }
