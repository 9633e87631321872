use Rattle.std.proofs.Common.{◌≡◌, ◌*◌, ◌∙◌, length, subst, ap, arith}
use Rattle.spanning.specs.Bottleneck.{entry, IsBottleneck}
use Rattle.spanning.specs.ClosureLaws.{IsClosedBelow, closed-more, IsBottleneck-from_closed}
use Rattle.spanning.proofs.table.relax_by_all.Goals as goal

pub loop-middle-preserved : goal.loop-middle-preserved
loop-middle-preserved c = grind (arith, closed-more)

pub returns : goal.returns
returns c =
    let ps = c.args.points.now in
    let n_is : c.len-n.result ≡ length ps = c.len-n.ensures.value in
    let all : c.loop-middle.middle ≡ length ps = omega arith in
    let closed : IsClosedBelow ps (length ps) (entry c.loop-middle.lengths c.len-n.result) =
    subst (λ k. IsClosedBelow ps k (entry c.loop-middle.lengths c.len-n.result)) all c.loop-middle.invariant.1 in
    record {
      size = c.loop-middle.invariant.0 ∙ ap (λ n. n * n) n_is;
      each = λ i j i_in j_in. subst (λ n. IsBottleneck ps i j (entry c.loop-middle.lengths n i j)) n_is
          (IsBottleneck-from_closed ps (entry c.loop-middle.lengths c.len-n.result) closed i j i_in j_in);
    }
