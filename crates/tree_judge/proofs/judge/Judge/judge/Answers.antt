use Rattle.std.proofs.Common.{Some, refl, arith}
use Rattle.tree_judge.proofs.lemmas.JudgeSteps.{none_gives, some_gives, count_passes, count_fails, stands_edges}
use Rattle.tree_judge.proofs.judge.Judge.judge.Goals as goal

pub returns-in-Claims-clause-passes : goal.returns-in-Claims-clause-passes
returns-in-Claims-clause-passes g c s stands =
    rw c.in-Claims.is (
      record s { claim = c.in-Claims.claim },
      refl,
      stands_edges c.args.g.now c.args.self.now _ s (record s { claim = c.in-Claims.claim })
          (record { splits = refl; cuts_due = refl; room = refl; weight = refl; least = refl }) refl
          stands.edges_due stands.network refl refl refl refl refl stands,
    )

pub returns-in-EdgeCount-clause-passes : goal.returns-in-EdgeCount-clause-passes
returns-in-EdgeCount-clause-passes g c =
    rw c.in-EdgeCount.is
    (none_gives c.judge_network.result _ _
    (λ right. count_passes c.args.g.now c.in-EdgeCount.count c.args.self.now _ c.judge_network.new.self
    (record {
      edges_due = refl;
      claim = refl;
      edges = refl;
      tree = record { splits = refl; cuts_due = refl; room = refl; weight = refl; least = refl };
    })
    c.judge_network.ensures.same right (Some c.args.members.now))
    c.judge_network.ensures.passes)

pub returns-in-EdgeCount-clause-fault : goal.returns-in-EdgeCount-clause-fault
returns-in-EdgeCount-clause-fault g c =
    rw c.in-EdgeCount.is
    (some_gives c.judge_network.result _ _
    (λ cause wrong. count_fails c.args.g.now c.in-EdgeCount.count c.args.line c.args.self.now _
    c.judge_network.new.self cause
    (record {
      edges_due = refl;
      claim = refl;
      edges = refl;
      tree = record { splits = refl; cuts_due = refl; room = refl; weight = refl; least = refl };
    })
    c.judge_network.ensures.same wrong (Some c.args.members.now))
    c.judge_network.ensures.fault)

pub returns-in-Edge-clause-passes : goal.returns-in-Edge-clause-passes
returns-in-Edge-clause-passes g c =
    rw c.in-Edge.is
    (none_gives c.judge_edge.result _ _ (λ passes s stands. passes s (Some c.args.members.now) stands)
    c.judge_edge.ensures.passes)

pub returns-in-Edge-clause-fault : goal.returns-in-Edge-clause-fault
returns-in-Edge-clause-fault g c =
    rw c.in-Edge.is
    (some_gives c.judge_edge.result _ _ (λ cause fails s stands. fails s (Some c.args.members.now) stands)
    c.judge_edge.ensures.fault)

pub returns-in-Split-clause-passes : goal.returns-in-Split-clause-passes
returns-in-Split-clause-passes g c = grind (arith, none_gives)

pub returns-in-Split-clause-fault : goal.returns-in-Split-clause-fault
returns-in-Split-clause-fault g c = grind (arith, some_gives)
