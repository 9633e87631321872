-- The law that a graph has one reduction.
use Rattle.std.specs.Prelude.{◌≡◌}
use Rattle.net_graph.specs.Graph.{Graph}
use Rattle.graph_reduce.specs.Reduction.{Reduction, IsReductionOf}

-- no other reduction is one of the graph
abbrev pub IsOnlyReductionOf : Graph → Reduction → Type 0
IsOnlyReductionOf g r = (other : Reduction) → IsReductionOf g other → other ≡ r

-- a graph has one reduction at most
abbrev pub OneReduction : Type 0
OneReduction = (g : Graph) (r : Reduction) → IsReductionOf g r → IsOnlyReductionOf g r
