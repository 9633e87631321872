use Rattle.graph_reduce.proofs.lemmas.Agreeing.{due_joined}
use Rattle.std.specs.Prelude.{OnOk, false}
use Rattle.std.specs.Prelude.{Result}
use Rattle.std.proofs.Common.{sym, subst, arith, Ok, Err, length-set}
use Rattle.graph_reduce.specs.declared.node_rules.NodeRule.TheVariants.{Passed}
use Rattle.graph_reduce.specs.State.{HasEdge}
use Rattle.graph_reduce.specs.Survey.{IsListed}
use Rattle.graph_reduce.specs.Clear.{IsTidyBut}
use Rattle.graph_reduce.proofs.lemmas.Bounds.{reached_numbered, reached_then}
use Rattle.graph_reduce.proofs.lemmas.Clearing.{one_step}
use Rattle.graph_reduce.proofs.lemmas.JoinedPlaces.{one}
use Rattle.graph_reduce.proofs.lemmas.NodeRuleLaws.{passed_seen}
use Rattle.graph_reduce.proofs.lemmas.Renewing.{all_told, due_more, joined_other, survey_more, listed_joined, marked_same}
use Rattle.graph_reduce.proofs.lemmas.Stepping.{passed_step, tidy_joined, joined_at}
use Rattle.graph_reduce.proofs.steps.join_at.Goals as goal

pub list-requires : goal.list-requires
list-requires c = grind (arith, reached_numbered c.args.work.now c.requires.reached)

pub drop_alike-requires-clause-edge : goal.drop_alike-requires-clause-edge
drop_alike-requires-clause-edge c = let (joins, is, later) = c.in_ok-join_edges-in-TwoEdges.ensures in (
  one c.args.v c.args.work.now c.join_edges.new.work joins,
  subst (λ n. HasEdge c.join_edges.new.work n (one c.args.v c.args.work.now c.join_edges.new.work joins)) is
      (joined_at c.args.v c.args.work.now c.join_edges.new.work c.requires.tidy joins),
)

pub drop_alike-requires-clause-tidy : goal.drop_alike-requires-clause-tidy
drop_alike-requires-clause-tidy c = let (joins, is, later) = c.in_ok-join_edges-in-TwoEdges.ensures in
    subst (IsTidyBut c.join_edges.new.work) is
    (tidy_joined c.args.v c.args.work.now c.join_edges.new.work c.requires.tidy joins)

pub drop_alike-requires-clause-numbered : goal.drop_alike-requires-clause-numbered
drop_alike-requires-clause-numbered c = let (joins, is, later) = c.in_ok-join_edges-in-TwoEdges.ensures in
    reached_numbered c.join_edges.new.work
    (reached_then c.args.work.now c.join_edges.new.work c.requires.reached
    (one_step c.args.work.now c.join_edges.new.work (passed_step c.args.work.now c.requires.tidy c.requires.leaves
    c.args.v c.join_edges.new.work c.requires.lowest joins)))

pub drop_alike-requires-clause-index : goal.drop_alike-requires-clause-index
drop_alike-requires-clause-index c = let (joins, is, later) = c.in_ok-join_edges-in-TwoEdges.ensures in
    let other = joined_other c.args.v c.args.work.now c.join_edges.new.work joins c.in-TwoEdges.later c.edge_at.result
    c.other_end.result later c.edge_at.ensures c.other_end.ensures in
    let told = all_told c.args.work.now c.args.v Passed c.edges_of-edges.result c.add_ends_of.new.self
    c.requires.lowest.applies c.edges_of-edges.ensures.seen c.in_ok-add_ends_of.ensures.due in
    let survey = survey_more c.args.work.now c.edges_of-edges.new.self c.list.new.self c.list.ensures.size
    c.list.ensures.kept c.list.ensures.terminals c.edges_of-edges.ensures.survey in
    grind (arith, listed_joined c.args.v c.args.work.now c.join_edges.new.work joins c.list.new.self.places.items survey.places (subst (λ n. IsListed c.list.new.self.places.items n joins.earlier) (sym other) (subst (IsListed c.list.new.self.places.items c.other_end.result) (sym is) c.in_ok-list-in-TwoEdges.ensures.listed)), marked_same, length-set c.args.work.now.nodes c.args.v false, due_joined c.args.v c.args.work.now c.join_edges.new.work c.add_ends_of.new.self (due_more c.args.work.now c.args.due.now c.add_ends_of.new.self c.requires.index.all c.add_ends_of.ensures.stays) joins told)

pub unreachable-requires : goal.unreachable-requires
unreachable-requires c = passed_seen c.args.work.now c.args.v c.edges_of-edges.result c.edges_of-edges.ensures.seen
    c.requires.lowest.applies c.in_default.not-TwoEdges

-- what follows from two clauses of a call that went well
both_ok : {T E P Q R : Type 0} (r : Result T E) → (P → Q → R) → OnOk r P → OnOk r Q → OnOk r R
both_ok (Ok x) both p q = both p q
both_ok (Err e) both p q = tt

pub returns-clause-more : goal.returns-clause-more
returns-clause-more c = let (joins, is, later) = c.in_ok-join_edges-in-TwoEdges.ensures in
    both_ok c.drop_alike.result (λ leads tidy. record {
      next = c.join_edges.new.work;
      step = passed_step c.args.work.now c.requires.tidy c.requires.leaves c.args.v c.join_edges.new.work
          c.requires.lowest joins;
      rest = leads;
      tidy = tidy;
    }) c.drop_alike.ensures.leads c.drop_alike.ensures.tidy
