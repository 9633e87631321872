use Rattle.std.proofs.Common.{◌<◌, refl, subst, arith}
use Rattle.std.proofs.lemmas.List.Elements.{All-more}
use Rattle.std.proofs.lemmas.List.{take_all}
use Rattle.net_graph.specs.declared.packing.Cut.{Cut}
use Rattle.net_graph.specs.Packing.{IsCut}
use Rattle.net_graph.proofs.lemmas.FeasibleLemmas.{AreCuts}
use Rattle.net_graph.proofs.feasibility.are_cuts.Goals as goal

pub loop-cut-preserved : goal.loop-cut-preserved
loop-cut-preserved c =
    let P = λ (x : Cut). (0 < x.weight) × IsCut c.args.g.now c.args.d.now x.members in
    All-more P c.args.cuts.now c.loop-cut.cut-index c.cut-item.result (omega arith) c.loop-cut.invariant
    (subst P c.cut-item.is (c.if-not-is_cut.ensures.0 refl))

pub returns : goal.returns
returns c = (
  λ _. subst (AreCuts c.args.g.now c.args.d.now) (take_all c.loop-cut.cut-index c.args.cuts.now c.loop-cut-test.false) c.loop-cut.invariant,
  λ _. refl,
)
