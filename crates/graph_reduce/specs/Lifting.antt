-- The law that a reduction loses nothing.
use Rattle.std.specs.Prelude.{ℕ, ◌≡◌, ◌+◌, ◌≤◌, Bool, List}
use Rattle.net_graph.specs.Graph.{Graph, IsGraph}
use Rattle.net_graph.specs.Network.{IsNetwork, IsLowerBound, IsShortest, length_of}
use Rattle.graph_reduce.specs.Reduction.{Reduction, IsReductionOf, lift_of}

-- a network of the reduced graph that is, with the offset, no longer than this
pub record HasNetworkWithin (r : Reduction) (length : ℕ) : Type 0 where
  pub set : List Bool
  pub is : IsNetwork r.graph set
  pub short : length_of r.graph set + r.offset ≤ length

-- Every network of the reduced graph lifts to one of the graph that is longer by the offset, and for every network of
-- the graph there is one of the reduced graph that is no longer, less the offset. So what bounds the networks of the
-- one bounds those of the other, and a shortest network lifts to a shortest one.
pub record KeepsNetworks (g : Graph) (r : Reduction) : Type 0 where
  pub lifts : (set : List Bool) → IsNetwork r.graph set → IsNetwork g (lift_of r set)
  pub length : (set : List Bool) → IsNetwork r.graph set →
      length_of g (lift_of r set) ≡ length_of r.graph set + r.offset
  pub nothing_lost : (other : List Bool) → IsNetwork g other → HasNetworkWithin r (length_of g other)
  pub bounds : (bound : ℕ) → IsLowerBound r.graph bound → IsLowerBound g (bound + r.offset)
  pub shortest : (set : List Bool) → IsShortest r.graph set → IsShortest g (lift_of r set)

-- the reduction of a graph keeps its networks
abbrev pub LiftingKeepsLength : Type 0
LiftingKeepsLength = (g : Graph) (r : Reduction) → IsGraph g → IsReductionOf g r → KeepsNetworks g r
