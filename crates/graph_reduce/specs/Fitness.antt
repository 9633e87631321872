-- What a reduction of a graph is: a graph again, and a partition of some of the edges.
use Rattle.std.specs.Prelude.{ℕ, ◌≡◌, ◌≤◌, Bool, true, List, length, slice_get, Some}
use Rattle.net_graph.specs.Flags.{has}
use Rattle.net_graph.specs.Graph.{Graph, IsGraph, total_of}
use Rattle.graph_reduce.specs.Reduction.{Reduction, IsReductionOf}

-- The reduced graph is a graph with a node for each vertex and a set of the graph's edges for each edge. No edge of the
-- graph stands in two of these sets, or in one and among the forced edges. The offset is within the graph's total.
pub record IsFitFor (g : Graph) (r : Reduction) : Type 0 where
  pub graph : IsGraph r.graph
  pub origins : length r.origins ≡ r.graph.vertices
  pub edges : length r.originals ≡ length r.graph.edges
  pub sizes : (k : ℕ) (set : List Bool) → slice_get r.originals k ≡ Some set → length set ≡ length g.edges
  pub forced : length r.forced ≡ length g.edges
  pub apart : (j k e : ℕ) (one two : List Bool) → slice_get r.originals j ≡ Some one →
      slice_get r.originals k ≡ Some two → has one e ≡ true → has two e ≡ true → j ≡ k
  pub unforced : (k e : ℕ) (set : List Bool) → slice_get r.originals k ≡ Some set → has set e ≡ true →
      ¬ (has r.forced e ≡ true)
  pub offset : r.offset ≤ total_of g

-- the reduction of a graph fits it
abbrev pub ReductionsFit : Type 0
ReductionsFit = (g : Graph) (r : Reduction) → IsGraph g → IsReductionOf g r → IsFitFor g r
