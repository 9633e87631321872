use Rattle.std.proofs.Common.{arith}
use Rattle.graph_reduce.specs.declared.node_rules.NodeRule.TheVariants.{Leaf}
use Rattle.graph_reduce.proofs.lemmas.Bounds.{reached_numbered}
use Rattle.graph_reduce.proofs.lemmas.Clearing.{no_steps}
use Rattle.graph_reduce.proofs.lemmas.Stepping.{leaf_step, tidy_leaf}
use Rattle.graph_reduce.proofs.lemmas.Renewing.{all_told, due_more, due_leaves, renewed_leaf}
use Rattle.graph_reduce.proofs.steps.takes_leaf.Goals as goal

pub lowest-requires-clause-numbered : goal.lowest-requires-clause-numbered
lowest-requires-clause-numbered c = reached_numbered c.args.work.now c.requires.reached

pub lowest-requires-clause-due : goal.lowest-requires-clause-due
lowest-requires-clause-due c = c.requires.index.all Leaf

pub returns-in_ok-add_ends_of-in-Some-clause-more : goal.returns-in_ok-add_ends_of-in-Some-clause-more
returns-in_ok-add_ends_of-in-Some-clause-more c =
    grind (
      arith,
      leaf_step c.args.work.now c.requires.tidy c.in-Some.v c.drop_leaf.new.work c.in-Some.ensures.lowest c.drop_leaf.ensures,
      no_steps c.drop_leaf.new.work,
      tidy_leaf c.in-Some.v c.args.work.now c.drop_leaf.new.work c.requires.tidy c.drop_leaf.ensures,
    )

pub returns-in_ok-add_ends_of-in-Some-clause-index : goal.returns-in_ok-add_ends_of-in-Some-clause-index
returns-in_ok-add_ends_of-in-Some-clause-index c =
    let due = due_leaves c.args.work.now c.args.due.now c.lowest.new.due c.requires.index.all c.lowest.ensures.due in
    renewed_leaf c.in-Some.v c.args.work.now c.drop_leaf.new.work c.edges_of-edges.new.self c.add_ends_of.new.self
    c.edges_of-edges.ensures.survey
    (due_more c.args.work.now (record c.args.due.now { leaves = c.lowest.new.due }) c.add_ends_of.new.self due
    c.add_ends_of.ensures.stays) c.drop_leaf.ensures
    (all_told c.args.work.now c.in-Some.v Leaf c.edges_of-edges.result c.add_ends_of.new.self
    c.in-Some.ensures.lowest.applies c.edges_of-edges.ensures.seen c.in_ok-add_ends_of-in-Some.ensures.due)

pub returns-in-None-clause-index : goal.returns-in-None-clause-index
returns-in-None-clause-index c =
    grind (arith, due_leaves c.args.work.now c.args.due.now c.lowest.new.due c.requires.index.all c.lowest.ensures.due)
