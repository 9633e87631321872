use Rattle.std.proofs.Common.{ℕ, ◌<◌, true, length, get_or, take, ap, sym, ◌∙◌, arith}
use Rattle.std.proofs.lemmas.List.{length-set, take_more}
use Rattle.std.proofs.lemmas.List.Elements.{All-push}
use Rattle.net_graph.proofs.lemmas.DistinctLemmas.{listed_new, listed_repeat}
use Rattle.net_graph.proofs.distinct.without_repeats.Goals as goal
use Rattle.net_graph.proofs.distinct.without_repeats.Goals.{then-not-has+in_ok-push, else-not-has}

pub loop-n-preserved : goal.loop-n-preserved
loop-n-preserved c =
    let n : ℕ = get_or c.args.numbers.now c.loop-n.n-index 0 in
    let more = take_more c.args.numbers.now c.loop-n.n-index 0 c.loop-n-test.true in
    let below : n < c.args.size = c.requires c.loop-n.n-index 0 c.loop-n-test.true in
    let within : n < length c.loop-n.listed = omega (arith, below, c.loop-n.invariant.size) in
    elim c.if-not-has.branch [
      | then-not-has+in_ok-push w ↦
          let kept_is = ap (λ v. v.items) w.kept-is ∙ w.in_ok-push.ensures.items in
          let listed_is = w.listed-is ∙ w.add.ensures in
          record {
            size = ap length listed_is ∙ length-set c.loop-n.listed n true ∙ c.loop-n.invariant.size;
            are = rw (listed_is, kept_is, more) (listed_new (take c.loop-n.n-index c.args.numbers.now) n c.loop-n.listed c.loop-n.kept.items
                c.loop-n.invariant.are (sym c.has.ensures.within ∙ w.if-not-has.true) within);
            below = rw kept_is (All-push (λ t. t < c.args.size) c.loop-n.kept.items n c.loop-n.invariant.below below);
          }
      | else-not-has w ↦
          record {
            size = ap length w.listed-is ∙ c.loop-n.invariant.size;
            are = rw (w.listed-is, w.kept-is, more) (listed_repeat (take c.loop-n.n-index c.args.numbers.now) n c.loop-n.listed c.loop-n.kept.items
                c.loop-n.invariant.are (sym c.has.ensures.within ∙ w.if-not-has.false));
            below = rw w.kept-is c.loop-n.invariant.below;
          }
    ]
