use Rattle.std.specs.Prelude.{length}
use Rattle.std.proofs.Common.{◌∙◌, arith}
use Rattle.std.proofs.lemmas.Option.{same_Some}
use Rattle.graph_reduce.proofs.lemmas.Alike.{clear_past}
use Rattle.graph_reduce.proofs.lemmas.Clearing.{no_steps, then_steps, within_then, clear_gone, clear_next}
use Rattle.graph_reduce.proofs.lemmas.Ends.{same_edge}
use Rattle.graph_reduce.proofs.lemmas.NodeKinds.{below_end}
use Rattle.graph_reduce.proofs.tidy.drop_parallels_of.Goals as goal

pub overflow_add-later : goal.overflow_add-later
overflow_add-later c = omega (arith, c.requires.few)

pub loop-n-init : goal.loop-n-init
loop-n-init c =
    grind (arith, no_steps c.args.work.now, same_edge)

pub drop_longer-requires-clause-later : goal.drop_longer-requires-clause-later
drop_longer-requires-clause-later c = below_end c.loop-n.work c.args.node c.in-Some.n c.in-Some.ensures.next.ends

pub drop_longer-requires-clause-clear : goal.drop_longer-requires-clause-clear
drop_longer-requires-clause-clear c = clear_past c.loop-n.work (length c.loop-n.work.edges) c.args.place c.loop-n.later
    c.in-Some.n c.args.node c.loop-n.invariant.end c.in-Some.ensures.next.none c.loop-n.invariant.clear

pub edge-requires : goal.edge-requires
edge-requires c = grind (arith, below_end c.args.work.now c.args.node c.args.place c.requires.end)

pub returns-in_default-edge-clause-leads : goal.returns-in_default-edge-clause-leads
returns-in_default-edge-clause-leads c = then_steps c.args.work.now c.loop-n.work c.drop_longer.new.work
    c.loop-n.invariant.leads c.drop_longer.ensures.leads

pub returns-in_default-edge-clause-clear : goal.returns-in_default-edge-clause-clear
returns-in_default-edge-clause-clear c = grind (arith, clear_gone, same_Some)

pub returns-in_default-edge-clause-places : goal.returns-in_default-edge-clause-places
returns-in_default-edge-clause-places c = λ n (x, at, ends).
    c.next_end.ensures.places n (x, c.drop_longer.ensures.within.edges n x at, ends)

pub loop-n-preserved : goal.loop-n-preserved
loop-n-preserved c = record {
  past = (let past = c.loop-n.invariant.past in let from = c.in-Some.ensures.next.from in omega arith);
  few = omega (arith, c.in-Some.ensures.below);
  leads = then_steps c.args.work.now c.loop-n.work c.drop_longer.new.work c.loop-n.invariant.leads
      c.drop_longer.ensures.leads;
  within = within_then c.drop_longer.new.work c.loop-n.work c.args.work.now c.drop_longer.ensures.within
      c.loop-n.invariant.within;
  rest = (
    c.drop_longer.ensures.rest.0 ∙ c.loop-n.invariant.rest.0,
    c.drop_longer.ensures.rest.1 ∙ c.loop-n.invariant.rest.1,
  );
  end = λ x at. c.loop-n.invariant.end x (c.drop_longer.ensures.within.edges c.args.place x at);
  clear = c.drop_longer.ensures.clear;
  places = λ n (x, at, ends). c.next_end.ensures.places n (x, c.drop_longer.ensures.within.edges n x at, ends);
}

pub returns-clause-clear : goal.returns-clause-clear
returns-clause-clear c = clear_next c.loop-n.work (length c.loop-n.work.edges) c.args.place
    (clear_past c.loop-n.work (length c.loop-n.work.edges) c.args.place c.loop-n.later (length c.loop-n.work.edges)
    c.args.node c.loop-n.invariant.end (λ k from below. c.in_default.ensures.next k from) c.loop-n.invariant.clear)
