use Rattle.std.proofs.Common.{refl, arith}
use Rattle.tree_judge.proofs.lemmas.JudgeSteps.{cut_passes}
use Rattle.tree_judge.proofs.judge.Judge.judge_cut.Goals as goal

pub returns-in-Some-clause-fault : goal.returns-in-Some-clause-fault
returns-in-Some-clause-fault g c s stands = grind (arith, c.in-Some.ensures.fault s.cuts stands.leaf)

pub returns-clause-passes : goal.returns-clause-passes
returns-clause-passes g c s stands =
    let old = c.args.self.now in
    let (packs, leaf) = c.in_default.ensures.passes s.cuts stands.leaf in
    cut_passes c.args.g.now c.args.weight c.saturating_sub.result c.args.members.now old _ c.set_cuts_due.new.self s
    (record {
      claim = refl;
      edges_due = refl;
      edges = refl;
      splits = refl;
      cuts_due = refl;
      weight_kept = c.saturating_add-self.ensures;
      least = refl;
      way = refl;
    })
    stands c.saturating_sub.ensures packs leaf c.set_cuts_due.ensures.stands
