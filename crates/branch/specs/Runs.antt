-- Runs of openings.
use Rattle.std.specs.Prelude.{ℕ, zero, suc, ◌≡◌, ◌≤◌, Bool, List}
use Rattle.net_graph.specs.Graph.{Graph}
use Rattle.net_graph.specs.Network.{length_of}
use Rattle.cert_tree.specs.declared.split.SplitOn.{SplitOn}
use Rattle.cert_tree.specs.Tree.{Tree}
use Rattle.cert_tree.specs.Preorder.{split_count}
use Rattle.branch.specs.States.{IsState}
use Rattle.branch.specs.Openings.{IsOpening}

-- The network and the tree are a state that ends a run of n openings: for none, the tree is a leaf and the
-- network is no longer than a first length; else it comes by an opening from a state that ends such a run of
-- one opening fewer.
abbrev pub EndsOpenings : Graph → ℕ → ℕ → List Bool → Tree SplitOn → Type 0
EndsOpenings g first_length zero network tree =
    IsState g network tree × (split_count tree ≡ 0) × (length_of g network ≤ first_length)
EndsOpenings g first_length (suc n) network tree =
    IsState g network tree × (split_count tree ≡ suc n) × ((earlier : List Bool) × (earlier_tree : Tree SplitOn)
    × EndsOpenings g first_length n earlier earlier_tree × IsOpening g earlier network earlier_tree tree)

-- They end a run of openings whose first network is no longer than a length. Each opening makes one split.
abbrev pub EndsRunOfOpenings : Graph → ℕ → List Bool → Tree SplitOn → Type 0
EndsRunOfOpenings g first_length network tree = EndsOpenings g first_length (split_count tree) network tree
