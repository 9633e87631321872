-- What the nodes and packings of trees come to, and how trees are stored by them.
use Rattle.std.specs.Prelude.{ℕ, ◌≡◌, ◌+◌, ◌*◌, ◌<◌, ◌≤◌, ◌^◌, List, [], ◌∷◌, ◌++◌, length, Option, Some, None, refl, ◌⊎◌}
use Rattle.std.specs.Coded.{Coded, code_by, coded×, coded⊎, coded_ℕ, coded_bool, coded_list, coded_option}
use Rattle.std.proofs.Common.{Bool, ap, inl, inr, append_assoc, length-append, arith}
use Rattle.std.proofs.lemmas.List.{append-nil}
use Rattle.net_graph.specs.declared.packing.Cut.{Cut}
use Rattle.cert_tree.specs.declared.split.SplitOn.{SplitOn}
use Rattle.cert_tree.specs.declared.split.SplitOn.TheVariants as split
use Rattle.cert_tree.specs.Tree.{Tree}
use Rattle.cert_tree.specs.Tree.Tree.{Leaf, Split}
use Rattle.cert_tree.specs.Preorder.{nodes_of, packings_of, split_count, leaves_in, trees_of, first_tree, tree_of, IsPreorder}

-- a tree's nodes and packings, with others behind them, are read as that tree and then those others
pub trees_of-parts : {S : Type 0} (t : Tree S) (nodes : List (Option S)) (packings : List (List Cut)) →
    trees_of (nodes_of t ++ nodes) (packings_of t ++ packings) ≡ t ∷ trees_of nodes packings
trees_of-parts (Leaf cuts) nodes packings = refl
trees_of-parts (Split on o i) nodes packings =
    grind (
      arith,
      append_assoc (nodes_of o) (nodes_of i) nodes,
      append_assoc (packings_of o) (packings_of i) packings,
      trees_of-parts o (nodes_of i ++ nodes) (packings_of i ++ packings),
      trees_of-parts i nodes packings,
    )

-- a tree's nodes and packings give it back
pub tree_of-parts : {S : Type 0} (t : Tree S) → tree_of (nodes_of t) (packings_of t) ≡ t
tree_of-parts t = ap first_tree (rw (append-nil (nodes_of t), append-nil (packings_of t)) at (trees_of-parts t [] []))

-- .. so they are those of one tree, where it has few leaves
pub IsPreorder-parts : {S : Type 0} (t : Tree S) → length (packings_of t) ≤ 2 ^ 31 →
    IsPreorder (nodes_of t) (packings_of t)
IsPreorder-parts t few = grind (arith, tree_of-parts t)

-- a tree has one leaf more than splits
pub length-packings_of : {S : Type 0} (t : Tree S) → length (packings_of t) ≡ split_count t + 1
length-packings_of (Leaf cuts) = omega arith
length-packings_of (Split on o i) =
    omega (arith, length-append (packings_of o) (packings_of i), length-packings_of o, length-packings_of i)

-- .. so it has one
pub some_leaf : {S : Type 0} (t : Tree S) → 0 < length (packings_of t)
some_leaf t = omega (arith, length-packings_of t)

-- the nodes are the leaves and, one fewer, the splits
pub length-nodes_of : {S : Type 0} (t : Tree S) → length (nodes_of t) + 1 ≡ 2 * length (packings_of t)
length-nodes_of (Leaf cuts) = omega arith
length-nodes_of (Split on o i) =
    grind (
      arith,
      length-append (nodes_of o) (nodes_of i),
      length-append (packings_of o) (packings_of i),
      length-nodes_of o,
      length-nodes_of i,
    )

-- the leaves of two lists
pub leaves_in-append : {S : Type 0} (xs ys : List (Option S)) → leaves_in (xs ++ ys) ≡ leaves_in xs + leaves_in ys
leaves_in-append [] ys = omega arith
leaves_in-append (None ∷ xs) ys = omega (arith, leaves_in-append xs ys)
leaves_in-append (Some on ∷ xs) ys = leaves_in-append xs ys

-- a tree has as many packings as leaves
pub leaves_in-nodes_of : {S : Type 0} (t : Tree S) → leaves_in (nodes_of t) ≡ length (packings_of t)
leaves_in-nodes_of (Leaf cuts) = omega arith
leaves_in-nodes_of (Split on o i) =
    grind (
      arith,
      leaves_in-append (nodes_of o) (nodes_of i),
      leaves_in-nodes_of o,
      leaves_in-nodes_of i,
      length-append (packings_of o) (packings_of i),
    )

-- cuts are stored as the pair of their parts
abbrev pub cut_code : Coded Cut
cut_code = code_by (ℕ × List Bool) (coded× coded_ℕ (coded_list coded_bool)) (λ c. (c.weight, c.members))
    (λ p. record { weight = p.0; members = p.1 }) (λ _. refl)

-- what a split is on is stored as a number, on the left for an edge and on the right for a vertex
abbrev split_sides : SplitOn → ℕ ⊎ ℕ
split_sides (split.Edge e) = inl e
split_sides (split.Vertex v) = inr v

abbrev split_from : ℕ ⊎ ℕ → SplitOn
split_from (inl e) = split.Edge e
split_from (inr v) = split.Vertex v

pub split_from-sides : (on : SplitOn) → split_from (split_sides on) ≡ on
split_from-sides (split.Edge e) = refl
split_from-sides (split.Vertex v) = refl

abbrev pub split_code : Coded SplitOn
split_code = code_by (ℕ ⊎ ℕ) (coded⊎ coded_ℕ coded_ℕ) split_sides split_from split_from-sides

-- trees are stored as their nodes and packings
abbrev pub tree_code : Coded (Tree SplitOn)
tree_code =
    code_by (List (Option SplitOn) × List (List Cut))
    (coded× (coded_list (coded_option split_code)) (coded_list (coded_list cut_code)))
    (λ t. (nodes_of t, packings_of t)) (λ p. tree_of p.0 p.1) tree_of-parts
