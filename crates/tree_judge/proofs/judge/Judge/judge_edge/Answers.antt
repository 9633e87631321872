use Rattle.std.proofs.Common.{refl}
use Rattle.tree_judge.proofs.lemmas.JudgeSteps.{none_gives, some_gives, edge_passes, edges_fail}
use Rattle.tree_judge.proofs.judge.Judge.judge_edge.Goals as goal

pub returns-clause-passes : goal.returns-clause-passes
returns-clause-passes c =
    let (follows, edges) = c.in_default.ensures.passes in
    none_gives c.judge_network.result _ _
    (edge_passes c.args.g.now c.args.edge c.args.self.now _ c.judge_network.new.self
    (record {
      follows = follows;
      edges = edges;
      edges_due = c.saturating_sub-self.ensures;
      claim = refl;
      tree = record { splits = refl; cuts_due = refl; room = refl; weight = refl; least = refl };
    })
    c.judge_network.ensures.same)
    c.judge_network.ensures.passes

pub returns-clause-fault : goal.returns-clause-fault
returns-clause-fault c =
    let (follows, edges) = c.in_default.ensures.passes in
    some_gives c.judge_network.result _ _
    (λ cause. edges_fail c.args.g.now c.args.edge c.args.line c.args.self.now _ c.judge_network.new.self cause
    (record {
      follows = follows;
      edges = edges;
      edges_due = c.saturating_sub-self.ensures;
      claim = refl;
      tree = record { splits = refl; cuts_due = refl; room = refl; weight = refl; least = refl };
    })
    c.judge_network.ensures.same)
    c.judge_network.ensures.fault
