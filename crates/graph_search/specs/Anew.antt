-- What searches come to that begin anew and split on edges.
use Rattle.std.specs.Prelude.{ℕ, ◌≡◌, ◌≤◌}
use Rattle.net_graph.specs.Graph.{Graph}
use Rattle.cert_tree.specs.Preorder.{split_count}
use Rattle.branch.specs.declared.solved.Solved.{Solved}
use Rattle.branch.specs.declared.split_kind.SplitKind.TheVariants as kind
use Rattle.branch.specs.PlainOpenings.{LeadsByOpenings}
use Rattle.branch.specs.Searching.{SearchState}
use Rattle.branch.specs.Solving.{IsSolved}
use Rattle.graph_search.specs.Searched.{EndsByKind}

-- plain openings of its kind, or none, lead from the one state of a search to the other
pub record IsAhead (old new : SearchState) : Type 0 where
  pub graph : new.graph ≡ old.graph
  pub kind : new.kind ≡ old.kind
  pub first_length : new.first_length ≡ old.first_length
  pub leads : LeadsByOpenings old.kind old.graph old.network old.tree new.network new.tree

-- a search found it by at most so many plain openings on edges
pub record IsFoundOnEdges (g : Graph) (first_length openings : ℕ) (s : Solved) : Type 0 where
  pub solved : IsSolved g first_length s
  pub few : split_count s.tree ≤ openings
  pub by_kind : EndsByKind g kind.Edges first_length s.network s.tree
