use Rattle.graph_reduce.proofs.lemmas.Sizes.{steps_less}
use Rattle.std.proofs.Common.{arith, refl}
use Rattle.std.proofs.lemmas.Bool.{OnTrue_at}
use Rattle.graph_reduce.specs.State.{start_of}
use Rattle.graph_reduce.proofs.lemmas.Bounds.{reached_from, reached_numbered, leads_on}
use Rattle.graph_reduce.proofs.lemmas.Clearing.{then_steps}
use Rattle.graph_reduce.proofs.lemmas.NodeRuleLaws.{kind_from, kind_below}
use Rattle.graph_reduce.proofs.steps.reduced_state.Goals as goal

pub of-requires : goal.of-requires
of-requires c = reached_numbered c.in_ok-work.work
    (reached_from c.args.g.now c.in_ok-work.ensures.graph c.in_ok-work.work c.in_ok-work.ensures.leads)

pub drop_parallels-requires-clause-numbered : goal.drop_parallels-requires-clause-numbered
drop_parallels-requires-clause-numbered c = reached_numbered c.in_ok-work.work
    (reached_from c.args.g.now c.in_ok-work.ensures.graph c.in_ok-work.work c.in_ok-work.ensures.leads)

pub loop-due-init : goal.loop-due-init
loop-due-init c =
    let leads = then_steps (start_of c.args.g.now) c.in_ok-work.work c.drop_parallels.new.work c.in_ok-work.ensures.leads
    c.drop_parallels.ensures.leads in
    let numbered = reached_numbered c.drop_parallels.new.work
    (reached_from c.args.g.now c.in_ok-work.ensures.graph c.drop_parallels.new.work leads) in
    record {
      leads = leads;
      tidy = c.drop_parallels.ensures.tidy;
      index = record {
        seen = c.drop_parallels.ensures.survey;
        all = λ rule v applies. c.in_ok-due.ensures v
            (let below = kind_below c.drop_parallels.new.work v rule numbered
            (kind_from c.drop_parallels.new.work v rule applies) in
            omega (arith, below, c.node_count.ensures)) rule;
      };
    }

pub loop-due-smaller : goal.loop-due-smaller
loop-due-smaller c = grind (arith, steps_less 1 c.loop-due.work (OnTrue_at c.if-branch.true c.in_ok-goes_on.ensures.more).next (c.loop-due.work, refl, (OnTrue_at c.if-branch.true c.in_ok-goes_on.ensures.more).step), steps_less (OnTrue_at c.if-branch.true c.in_ok-goes_on.ensures.more).rest.count (OnTrue_at c.if-branch.true c.in_ok-goes_on.ensures.more).next c.goes_on.new.work (OnTrue_at c.if-branch.true c.in_ok-goes_on.ensures.more).rest.steps)

pub loop-due-preserved : goal.loop-due-preserved
loop-due-preserved c =
    let more = OnTrue_at c.if-branch.true c.in_ok-goes_on.ensures.more in
    record {
      leads = then_steps (start_of c.args.g.now) c.loop-due.work c.goes_on.new.work c.loop-due.invariant.leads
          (leads_on c.loop-due.work c.goes_on.new.work more);
      tidy = more.tidy;
      index = c.in_ok-goes_on.ensures.index;
    }
