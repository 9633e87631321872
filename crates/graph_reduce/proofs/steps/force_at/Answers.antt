use Rattle.std.specs.Prelude.{◌<◌, length, slice_set, true, false}
use Rattle.std.proofs.Common.{◌∙◌, sym, ap, subst, arith}
use Rattle.std.proofs.lemmas.Result.{on_ok_weaker}
use Rattle.graph_reduce.specs.declared.node_rules.NodeRule.TheVariants.{TerminalLeaf}
use Rattle.graph_reduce.proofs.lemmas.Agreeing.{due_forced}
use Rattle.graph_reduce.proofs.lemmas.Bounds.{reached_numbered, reached_then}
use Rattle.graph_reduce.proofs.lemmas.Clearing.{one_step, within_then}
use Rattle.graph_reduce.proofs.lemmas.NodeRuleLaws.{forced_seen}
use Rattle.graph_reduce.proofs.lemmas.Renewing.{all_told, due_more, forced_other, forced_apart, other_below, renewed_forced, survey_within, survey_as}
use Rattle.graph_reduce.proofs.lemmas.Stepping.{forced_step, tidy_within, within_forced}
use Rattle.graph_reduce.proofs.steps.force_at.Goals as goal

pub move_terminal-requires-clause-to : goal.move_terminal-requires-clause-to
move_terminal-requires-clause-to c = grind (arith, reached_numbered c.args.work.now c.requires.reached)

pub drop_idle-requires-clause-due : goal.drop_idle-requires-clause-due
drop_idle-requires-clause-due c = due_forced c.args.v c.args.work.now c.force_edge.new.work c.force_edge.ensures
    c.add_ends_of.new.self
    (due_more c.args.work.now c.args.due.now c.add_ends_of.new.self c.requires.index.all c.add_ends_of.ensures.stays)
    (all_told c.args.work.now c.args.v TerminalLeaf c.edges_of-edges.result c.add_ends_of.new.self
    c.requires.lowest.applies c.edges_of-edges.ensures.seen c.in_ok-add_ends_of.ensures.due)

pub drop_idle-requires-clause-numbered : goal.drop_idle-requires-clause-numbered
drop_idle-requires-clause-numbered c = reached_numbered c.force_edge.new.work
    (reached_then c.args.work.now c.force_edge.new.work c.requires.reached
    (one_step c.args.work.now c.force_edge.new.work (forced_step c.args.work.now c.requires.tidy c.requires.leaves
    c.requires.passed c.args.v c.force_edge.new.work c.requires.lowest c.force_edge.ensures)))

pub unreachable-requires : goal.unreachable-requires
unreachable-requires c = forced_seen c.args.work.now c.args.v c.edges_of-edges.result c.edges_of-edges.ensures.seen
    c.requires.lowest.applies c.in_default.not-OneEdge

pub returns-clause-more : goal.returns-clause-more
returns-clause-more c = on_ok_weaker c.drop_idle.result (λ leads. record {
  next = c.force_edge.new.work;
  step = forced_step c.args.work.now c.requires.tidy c.requires.leaves c.requires.passed c.args.v c.force_edge.new.work
      c.requires.lowest c.force_edge.ensures;
  rest = leads;
  tidy = tidy_within c.args.work.now c.drop_idle.new.work c.requires.tidy
      (within_then c.drop_idle.new.work c.force_edge.new.work c.args.work.now c.drop_idle.ensures.within
      (within_forced c.args.v c.args.work.now c.force_edge.new.work c.force_edge.ensures))
      c.drop_idle.ensures.idle;
}) c.drop_idle.ensures.leads

pub returns-clause-index : goal.returns-clause-index
returns-clause-index c =
    let forces = c.force_edge.ensures in
    let other = forced_other c.args.v c.args.work.now c.force_edge.new.work forces c.in-OneEdge.place c.edge_at.result
    c.other_end.result c.edge_at.ensures c.other_end.ensures in
    let other_within = other_below c.args.work.now c.args.v c.other_end.result c.in-OneEdge.place c.edge_at.result
    (reached_numbered c.args.work.now c.requires.reached) c.edge_at.ensures c.other_end.ensures in
    let forced = renewed_forced c.args.v c.args.work.now c.force_edge.new.work forces
    c.edges_of-edges.new.self.places.items c.edges_of-edges.new.self.terminals c.edges_of-edges.ensures.survey
    (forced_apart c.args.v c.args.work.now c.force_edge.new.work forces
    (c.requires.tidy.loops forces.place forces.x forces.edge.at)) c.requires.lowest.node
    (subst (λ n. n < length c.args.work.now.nodes) (sym other) other_within) in
    let moved = survey_as c.force_edge.new.work c.edges_of-edges.new.self c.move_terminal.new.self
    (slice_set (slice_set c.edges_of-edges.new.self.terminals c.args.v false) forces.other true)
    c.move_terminal.ensures.places
    (c.move_terminal.ensures.terminals ∙ ap (λ n. slice_set (slice_set c.edges_of-edges.new.self.terminals c.args.v false)
    n true) (sym other)) forced in
    on_ok_weaker c.drop_idle.result (λ due. record {
      seen = survey_within c.force_edge.new.work c.drop_idle.new.work c.move_terminal.new.self.places.items
          c.move_terminal.new.self.terminals moved c.drop_idle.ensures.within c.drop_idle.ensures.rest.0
          c.drop_idle.ensures.rest.1;
      all = due;
    }) c.drop_idle.ensures.due
