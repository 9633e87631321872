-- Trees in preorder: their nodes, each split by what it is on, and the packings of their leaves.
use Rattle.std.specs.Prelude.{ℕ, suc, ◌≡◌, ◌+◌, ◌≤◌, ◌^◌, List, [], ◌∷◌, ◌++◌, length, Option, Some, None}
use Rattle.net_graph.specs.declared.packing.Cut.{Cut}
use Rattle.cert_tree.specs.Tree.{Tree}
use Rattle.cert_tree.specs.Tree.Tree.{Leaf, Split}

-- the nodes in preorder: None for a leaf, what it is on for a split
abbrev pub nodes_of : {S : Type 0} → Tree S → List (Option S)
nodes_of (Leaf cuts) = None ∷ []
nodes_of (Split on outside inside) = Some on ∷ (nodes_of outside ++ nodes_of inside)

-- the packings of the leaves in preorder
abbrev pub packings_of : {S : Type 0} → Tree S → List (List Cut)
packings_of (Leaf cuts) = cuts ∷ []
packings_of (Split on outside inside) = packings_of outside ++ packings_of inside

-- how many splits there are
abbrev pub split_count : {S : Type 0} → Tree S → ℕ
split_count (Leaf cuts) = 0
split_count (Split on outside inside) = 1 + split_count outside + split_count inside

-- how many of the nodes are leaves
abbrev pub leaves_in : {S : Type 0} → List (Option S) → ℕ
leaves_in [] = 0
leaves_in (None ∷ nodes) = suc (leaves_in nodes)
leaves_in (Some on ∷ nodes) = leaves_in nodes

-- the split of the first two trees in place of them
abbrev pub joined : {S : Type 0} → S → List (Tree S) → List (Tree S)
joined on [] = []
joined on (outside ∷ []) = []
joined on (outside ∷ inside ∷ trees) = Split on outside inside ∷ trees

-- the trees whose nodes and packings stand one after another
abbrev pub trees_of : {S : Type 0} → List (Option S) → List (List Cut) → List (Tree S)
trees_of [] packings = []
trees_of (None ∷ nodes) [] = []
trees_of (None ∷ nodes) (cuts ∷ packings) = Leaf cuts ∷ trees_of nodes packings
trees_of (Some on ∷ nodes) packings = joined on (trees_of nodes packings)

-- the first of them
abbrev pub first_tree : {S : Type 0} → List (Tree S) → Tree S
first_tree [] = Leaf []
first_tree (tree ∷ trees) = tree

-- the tree of these nodes and packings
abbrev pub tree_of : {S : Type 0} → List (Option S) → List (List Cut) → Tree S
tree_of nodes packings = first_tree (trees_of nodes packings)

-- the nodes and packings are those of one tree, with few leaves
pub record IsPreorder {S : Type 0} (nodes : List (Option S)) (packings : List (List Cut)) : Type 0 where
  pub nodes_same : nodes_of (tree_of nodes packings) ≡ nodes
  pub packings_same : packings_of (tree_of nodes packings) ≡ packings
  pub few : length packings ≤ 2 ^ 31
