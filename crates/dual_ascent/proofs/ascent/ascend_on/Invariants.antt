use Rattle.std.proofs.Common.{◌≡◌, List, ◌++◌}
use Rattle.net_graph.specs.declared.packing.Cut.{Cut}
use Rattle.dual_ascent.specs.Active.{AreActive}
use Rattle.dual_ascent.specs.Ascending.{AreLeftBehind}
use Rattle.dual_ascent.specs.Costs.{edges_of, unsaturated}
use Rattle.dual_ascent.proofs.lemmas.AscentLemmas.{IsUnderWay}
use Rattle.dual_ascent.proofs.ascent.ascend_on.Given as goal

abbrev pub invariant-loop-packing : goal.invariant-loop-packing
invariant-loop-packing g l =
    ((first : List Cut) → AreLeftBehind l.g l.d (first ++ l.fn.last) l.fn.costs →
    IsUnderWay l.g l.d (first ++ l.fn.last) (first ++ l.packing) l.state.costs)
    × (AreActive l.g l.required l.state.costs l.state.active.items × (edges_of l.state.costs ≡ l.g.edges))

-- how many arcs have room left
abbrev pub decreases-loop-packing : goal.decreases-loop-packing
decreases-loop-packing g l = unsaturated l.state.costs
