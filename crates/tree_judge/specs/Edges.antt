-- Which edge may stand behind others in an answer, and why a line of an edge is wrong.
use Rattle.std.specs.Prelude.{ℕ, ◌≡◌, ◌<◌, ◌≤◌, Bool, true, List, length}
use Rattle.net_graph.specs.Flags.{has}
use Rattle.net_graph.specs.Graph.{Graph}
use Rattle.tree_judge.specs.declared.cause.Cause.{Cause}
use Rattle.tree_judge.specs.declared.cause.Cause.TheVariants.{EdgeOrder}

-- the edge is one of the graph, and its number is above those of the network so far
pub record FollowsEdges (g : Graph) (network : List Bool) (e : ℕ) : Type 0 where
  pub inside : e < length g.edges
  pub above : (m : ℕ) → has network m ≡ true → m < e

-- the network so far has the edge's number or a higher one
pub record ComesLate (network : List Bool) (e : ℕ) : Type 0 where
  pub other : ℕ
  pub held : has network other ≡ true
  pub order : e ≤ other

-- why the line n with this edge is wrong behind the network so far
abbrev pub EdgeFault : List Bool → ℕ → ℕ → Cause → Type 0
EdgeFault network e n (EdgeOrder line) = (line ≡ n) × ComesLate network e
EdgeFault network e n cause = ⊥
