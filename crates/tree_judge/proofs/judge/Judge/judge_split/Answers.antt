use Rattle.std.proofs.Common.{◌<◌, refl, arith}
use Rattle.std.proofs.lemmas.Bool.{iff_false}
use Rattle.tree_judge.specs.Judged.{decision_due}
use Rattle.tree_judge.proofs.lemmas.JudgeSteps.{has_state, split_decided, split_due, split_passes}
use Rattle.tree_judge.proofs.judge.Judge.judge_split.Goals as goal

pub is_split_undecided-requires-clause-on : goal.is_split_undecided-requires-clause-on
is_split_undecided-requires-clause-on c =
    has_state c.args.g.now c.args.self.now.room.way.decided c.args.on c.requires.sizes.way.states c.requires.on

pub returns-then-not-is_split_undecided-clause-fault : goal.returns-then-not-is_split_undecided-clause-fault
returns-then-not-is_split_undecided-clause-fault c s stands =
    let decided = iff_false c.is_split_undecided.ensures c.if-not-is_split_undecided.true in
    c.decided_cause.ensures c.args.g.now (decision_due c.args.g.now s) s.splits
    (split_decided c.args.g.now s c.args.self.now c.args.on stands decided)

pub returns-then-self-ge-MOST_SPLITS-clause-fault :
    goal.returns-then-self-ge-MOST_SPLITS-clause-fault
returns-then-self-ge-MOST_SPLITS-clause-fault c s stands =
    grind (arith, c.is_split_undecided.ensures.0 c.if-not-is_split_undecided.false, split_due c.args.g.now s c.args.self.now c.args.on stands (c.is_split_undecided.ensures.0 c.if-not-is_split_undecided.false))

pub returns-clause-passes : goal.returns-clause-passes
returns-clause-passes c s stands =
    let undecided = c.is_split_undecided.ensures.0 c.if-not-is_split_undecided.false in
    let few : c.args.self.now.splits < 255 = omega arith in
    split_passes c.args.g.now c.args.on c.args.self.now _ s
    (record {
      claim = refl;
      edges_due = refl;
      edges = refl;
      splits = refl;
      cuts_due = refl;
      weight = refl;
      least = refl;
      path = c.go_outside.ensures.path;
      loads = refl;
      decided = c.go_outside.ensures.decided;
    })
    stands c.requires.sizes.way undecided few
