-- The law that bounds every network from below by a packing of weighted directed cuts (weak duality; after Wong 1984).
use Rattle.std.specs.Prelude.{List}
use Rattle.net_graph.specs.declared.packing.Cut.{Cut}
use Rattle.net_graph.specs.Graph.{Graph}
use Rattle.net_graph.specs.Decision.{Decided, IsDecisionFor, IsLowerBoundUnder}
use Rattle.net_graph.specs.Packing.{IsFeasible, packing_value}

-- no network that agrees with a decision is shorter than the value of a packing that is feasible under it
abbrev pub WeakDuality : Type 0
WeakDuality = (g : Graph) (d : Decided) (packing : List Cut) → IsDecisionFor g d → IsFeasible g d packing →
    IsLowerBoundUnder g d (packing_value g d packing)
