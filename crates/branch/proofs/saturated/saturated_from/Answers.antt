use Rattle.std.proofs.lemmas.List.Sorted.{All-permutation}
use Rattle.branch.specs.SaturatedArcs.{IsOfSaturated}
use Rattle.branch.proofs.saturated.saturated_from.Goals as goal

pub returns : goal.returns
returns c =
    All-permutation (IsOfSaturated c.args.g.now c.args.costs.now) c.in_ok-arcs.arcs.items _
    c.sort_unstable_by_key.ensures.permutation c.in_ok-arcs.ensures
