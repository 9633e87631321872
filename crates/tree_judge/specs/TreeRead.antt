-- What was told behind the steps of a whole tree.
use Rattle.std.proofs.Common.{ℕ, ◌≡◌, ◌+◌, min, List, [], ◌∷◌, drop, get_or, refl, ap, ◌∙◌, arith}
use Rattle.net_graph.specs.declared.packing.Cut.{Cut}
use Rattle.net_graph.specs.Decision.{nothing_decided}
use Rattle.net_graph.specs.Packing.{packing_value}
use Rattle.net_graph.specs.Graph.{Graph}
use Rattle.cert_tree.specs.declared.split.SplitOn.{SplitOn}
use Rattle.cert_tree.specs.Tree.{Tree}
use Rattle.cert_tree.specs.Tree.Tree.{Leaf, Split}
use Rattle.cert_tree.specs.Preorder.{split_count}
use Rattle.cert_tree.specs.Decisions.{inside_of}
use Rattle.cert_tree.specs.TreeValue.{tree_value}
use Rattle.tree_judge.specs.Judged.{SoFar, decision_due, least_with, with_split}

-- behind a leaf with these cuts the next node is due
abbrev pub leaf_read : Graph → SoFar → List Cut → SoFar
leaf_read g s cuts = record s {
  decisions = drop 1 s.decisions;
  cuts_due = 0;
  cuts = [];
  values = packing_value g (decision_due g s) cuts ∷ s.values;
}

-- behind a split its two parts were read
abbrev pub tree_read : Graph → SoFar → Tree SplitOn → SoFar
tree_read g s (Leaf cuts) = leaf_read g s cuts
tree_read g s (Split on outside inside) = tree_read g (tree_read g (with_split g s on) outside) inside

-- the next node is due
pub tree_read-decisions : (g : Graph) (s : SoFar) (t : Tree SplitOn) → (tree_read g s t).decisions ≡ drop 1 s.decisions
tree_read-decisions g s (Leaf cuts) = refl
tree_read-decisions g s (Split on outside inside) =
    tree_read-decisions g (tree_read g (with_split g s on) outside) inside
    ∙ ap (λ ds. drop 1 ds) (tree_read-decisions g (with_split g s on) outside)

-- so the inside part is read under its decision
pub tree_read-inside : (g : Graph) (s : SoFar) (on : SplitOn) (outside : Tree SplitOn) →
    decision_due g (tree_read g (with_split g s on) outside) ≡ inside_of (decision_due g s) on
tree_read-inside g s on outside =
    ap (λ ds. get_or ds 0 (nothing_decided g)) (tree_read-decisions g (with_split g s on) outside)

-- the claim and the edges stay
pub tree_read-claim : (g : Graph) (s : SoFar) (t : Tree SplitOn) → (tree_read g s t).claim ≡ s.claim
tree_read-claim g s (Leaf cuts) = refl
tree_read-claim g s (Split on outside inside) =
    tree_read-claim g (tree_read g (with_split g s on) outside) inside ∙ tree_read-claim g (with_split g s on) outside

pub tree_read-network : (g : Graph) (s : SoFar) (t : Tree SplitOn) → (tree_read g s t).network ≡ s.network
tree_read-network g s (Leaf cuts) = refl
tree_read-network g s (Split on outside inside) =
    tree_read-network g (tree_read g (with_split g s on) outside) inside
    ∙ tree_read-network g (with_split g s on) outside

-- no leaf is being read
pub tree_read-cuts : (g : Graph) (s : SoFar) (t : Tree SplitOn) → (tree_read g s t).cuts ≡ []
tree_read-cuts g s (Leaf cuts) = refl
tree_read-cuts g s (Split on outside inside) = tree_read-cuts g (tree_read g (with_split g s on) outside) inside

-- the splits of the tree were read
pub tree_read-splits : (g : Graph) (s : SoFar) (t : Tree SplitOn) → (tree_read g s t).splits ≡ s.splits + split_count t
tree_read-splits g s (Leaf cuts) = omega arith
tree_read-splits g s (Split on outside inside) =
    omega (
      arith,
      tree_read-splits g (tree_read g (with_split g s on) outside) inside,
      tree_read-splits g (with_split g s on) outside,
    )

-- the least value of all leaves is that of the tree's or of those before
pub tree_read-least : (g : Graph) (s : SoFar) (t : Tree SplitOn) (top : ℕ) →
    least_with top (tree_read g s t).values ≡ min (tree_value g (decision_due g s) t) (least_with top s.values)
tree_read-least g s (Leaf cuts) top = refl
tree_read-least g s (Split on outside inside) top =
    let s1 = with_split g s on in
    let s2 = tree_read g s1 outside in
    let under : tree_value g (decision_due g s2) inside ≡ tree_value g (inside_of (decision_due g s) on) inside =
    ap (λ d. tree_value g d inside) (tree_read-inside g s on outside) in
    omega (arith, tree_read-least g s2 inside top, tree_read-least g s1 outside top, under)
