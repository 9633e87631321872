use Rattle.std.proofs.Common.{arith, subst}
use Rattle.std.proofs.lemmas.List.{take_all}
use Rattle.dual_ascent.specs.declared.entering.EnteringArc.{EnteringArc}
use Rattle.dual_ascent.specs.Costs.{IsLeastOf}
use Rattle.dual_ascent.specs.Entering.{IsLeftOfOne}
use Rattle.dual_ascent.proofs.lemmas.CostLemmas.{IsLeftOfOne-more}
use Rattle.dual_ascent.proofs.entering.least_left.Goals as goal

pub loop-e-preserved : goal.loop-e-preserved
loop-e-preserved c =
    let d : EnteringArc = record { arc = record { number = 0; from = 0; to = 0 }; left = 0 } in
    rw c.lesser-least.ensures
    (IsLeftOfOne-more c.args.list.now c.loop-e.e-index d c.loop-e.least c.loop-e-test.true c.loop-e.invariant)

pub returns : goal.returns
returns c =
    let all = take_all c.loop-e.e-index c.args.list.now (omega arith) in
    subst (λ xs. IsLeastOf (IsLeftOfOne xs) c.loop-e.least) all c.loop-e.invariant
