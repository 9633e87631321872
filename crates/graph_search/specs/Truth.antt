-- What is true of a network and a tree that a search ended with, and of the status that tells of them.
use Rattle.std.specs.Prelude.{ℕ, ◌≡◌, Bool, List, ◌↔◌}
use Rattle.net_graph.specs.Graph.{Graph}
use Rattle.net_graph.specs.Network.{IsLowerBound, IsShortest, length_of}
use Rattle.cert_tree.specs.declared.split.SplitOn.{SplitOn}
use Rattle.cert_tree.specs.Tree.{Tree}
use Rattle.cert_tree.specs.Preorder.{split_count}
use Rattle.branch.specs.Runs.{EndsOpenings}
use Rattle.graph_search.specs.Searched.{bound_of}

-- No network of the graph is shorter than the bound; the status is 0 exactly where the bound is the length, and then
-- the network is a shortest one. The status is 3 only where the tree has as many splits as openings are allowed, each
-- of them made by an opening: of a leaf whose value was below the network's length, on an edge or a vertex that was
-- undecided there.
pub record EndsTruly (g : Graph) (openings first_length : ℕ) (network : List Bool) (tree : Tree SplitOn) (status : ℕ)
    : Type 0 where
  pub bound : IsLowerBound g (bound_of g network tree)
  pub agrees : (status ≡ 0) ↔ (bound_of g network tree ≡ length_of g network)
  pub shortest : status ≡ 0 → IsShortest g network
  pub stopped : status ≡ 3 → (split_count tree ≡ openings) × EndsOpenings g first_length openings network tree
