-- What holds of the leaves of a tree, each under its own decision.
use Rattle.std.specs.Prelude.{ℕ, ◌≡◌, ◌+◌, ◌-◌, ◌<◌, ◌≤◌, List, [], ◌∷◌, ◌++◌, length, slice_get}
use Rattle.std.proofs.Common.{zero, suc, refl, sym, ap, ◌∙◌, ⊎_elim, le_of_eq, arith, length-append, subst}
use Rattle.std.proofs.lemmas.Bool.{cases_lt}
use Rattle.std.proofs.lemmas.Option.{same_Some, slice_get_within, slice_get-get_or}
use Rattle.net_graph.specs.declared.packing.Cut.{Cut}
use Rattle.net_graph.specs.Graph.{Graph}
use Rattle.net_graph.specs.Decision.{Decided, IsDecisionFor}
use Rattle.net_graph.specs.DecisionLaws.{IsUndecided-parts, IsDecisionFor-with_inside, IsDecisionFor-with_outside, IsDecisionFor-with_met, IsDecisionFor-with_missed}
use Rattle.net_graph.specs.Packing.{packing_value}
use Rattle.cert_tree.specs.declared.split.SplitOn.{SplitOn}
use Rattle.cert_tree.specs.declared.split.SplitOn.TheVariants as split
use Rattle.cert_tree.specs.Tree.{Tree}
use Rattle.cert_tree.specs.Tree.Tree.{Leaf, Split}
use Rattle.cert_tree.specs.Preorder.{packings_of}
use Rattle.cert_tree.specs.Decisions.{IsUndecidedSplit, IsLeafAt, decisions_of, outside_of, inside_of}
use Rattle.cert_tree.specs.TreeValue.{IsValidTree, tree_value}
use Rattle.cert_tree.specs.Replaced.{replaced}
use Rattle.cert_tree.specs.ReplacedLaws.{replaced-outside, replaced-inside}

-- the decision of a split's outside child is one
pub IsDecisionFor-outside_of : (g : Graph) (d : Decided) (on : SplitOn) → IsDecisionFor g d → IsUndecidedSplit g d on →
    IsDecisionFor g (outside_of d on)
IsDecisionFor-outside_of g d (split.Edge n) decision undecided =
    let (within, bare, not_free) = IsUndecided-parts g d n decision undecided in
    IsDecisionFor-with_outside g d n decision (omega (arith, decision.edges))
IsDecisionFor-outside_of g d (split.Vertex v) decision undecided = IsDecisionFor-with_missed g d v decision undecided

-- .. and so is that of its inside child
pub IsDecisionFor-inside_of : (g : Graph) (d : Decided) (on : SplitOn) → IsDecisionFor g d → IsUndecidedSplit g d on →
    IsDecisionFor g (inside_of d on)
IsDecisionFor-inside_of g d (split.Edge n) decision undecided = IsDecisionFor-with_inside g d n decision undecided
IsDecisionFor-inside_of g d (split.Vertex v) decision undecided = IsDecisionFor-with_met g d v decision undecided

-- one decision for each leaf
pub length-decisions_of : (d : Decided) (t : Tree SplitOn) → length (decisions_of d t) ≡ length (packings_of t)
length-decisions_of d (Leaf cuts) = refl
length-decisions_of d (Split on o i) =
    grind (
      arith,
      length-append (decisions_of (outside_of d on) o) (decisions_of (inside_of d on) i),
      length-append (packings_of o) (packings_of i),
      length-decisions_of (outside_of d on) o,
      length-decisions_of (inside_of d on) i,
    )

-- an element of the first of two lists, and of the second
slice_get-append_left : {X : Type 0} (xs ys : List X) (k : ℕ) → k < length xs → slice_get (xs ++ ys) k ≡ slice_get xs k
slice_get-append_left [] ys k below = absurd (omega arith)
slice_get-append_left (x ∷ xs) ys zero below = refl
slice_get-append_left (x ∷ xs) ys (suc k) below = slice_get-append_left xs ys k (omega arith)

slice_get-append_right : {X : Type 0} (xs ys : List X) (k : ℕ) → length xs ≤ k →
    slice_get (xs ++ ys) k ≡ slice_get ys (k - length xs)
slice_get-append_right [] ys k past = ap (slice_get ys) (omega arith)
slice_get-append_right (x ∷ xs) ys zero past = absurd (omega arith)
slice_get-append_right (x ∷ xs) ys (suc k) past =
    slice_get-append_right xs ys k (omega arith) ∙ ap (slice_get ys) (omega arith)

-- a leaf of the outside child is one of the split
pub IsLeafAt-from_outside : (d : Decided) (on : SplitOn) (o i : Tree SplitOn) (k : ℕ) (dk : Decided) (cuts : List Cut) →
    IsLeafAt (outside_of d on) o k dk cuts → IsLeafAt d (Split on o i) k dk cuts
IsLeafAt-from_outside d on o i k dk cuts leaf = record {
  decision = slice_get-append_left (decisions_of (outside_of d on) o) (decisions_of (inside_of d on) i) k
      (slice_get_within (decisions_of (outside_of d on) o) k dk leaf.decision) ∙ leaf.decision;
  packing = slice_get-append_left (packings_of o) (packings_of i) k
      (slice_get_within (packings_of o) k cuts leaf.packing) ∙ leaf.packing;
}

-- .. and so is a leaf of the inside child, behind those of the outside child
pub IsLeafAt-from_inside : (d : Decided) (on : SplitOn) (o i : Tree SplitOn) (k : ℕ) (dk : Decided) (cuts : List Cut) →
    IsLeafAt (inside_of d on) i k dk cuts → IsLeafAt d (Split on o i) (length (packings_of o) + k) dk cuts
IsLeafAt-from_inside d on o i k dk cuts leaf =
    grind (arith, length-decisions_of (outside_of d on) o, slice_get-append_right)

-- the leaves of a split that are its outside child's
pub IsLeafAt-outside : (d : Decided) (on : SplitOn) (o i : Tree SplitOn) (k : ℕ) (dk : Decided) (cuts : List Cut) →
    k < length (packings_of o) → IsLeafAt d (Split on o i) k dk cuts → IsLeafAt (outside_of d on) o k dk cuts
IsLeafAt-outside d on o i k dk cuts below leaf =
    grind (
      arith,
      length-decisions_of (outside_of d on) o,
      slice_get-append_left,
      slice_get-append_left (packings_of o) (packings_of i) k below,
    )

-- .. and those that are its inside child's
pub IsLeafAt-inside : (d : Decided) (on : SplitOn) (o i : Tree SplitOn) (k : ℕ) (dk : Decided) (cuts : List Cut) →
    length (packings_of o) ≤ k → IsLeafAt d (Split on o i) k dk cuts →
    IsLeafAt (inside_of d on) i (k - length (packings_of o)) dk cuts
IsLeafAt-inside d on o i k dk cuts past leaf =
    grind (
      arith,
      length-decisions_of (outside_of d on) o,
      slice_get-append_right,
      slice_get-append_right (packings_of o) (packings_of i) k past,
    )

-- the one leaf of a leaf
pub IsLeafAt-leaf : (d : Decided) (last : List Cut) (k : ℕ) (dk : Decided) (cuts : List Cut) →
    IsLeafAt d (Leaf last) k dk cuts →
    (k ≡ 0) × (d ≡ dk) × (last ≡ cuts)
IsLeafAt-leaf d last zero dk cuts leaf = (refl, same_Some d dk leaf.decision, same_Some last cuts leaf.packing)
IsLeafAt-leaf d last (suc k) dk cuts leaf = let none = leaf.packing in absurd cc

-- each place below the number of leaves has one
pub IsLeafAt-found : (d : Decided) (t : Tree SplitOn) (k : ℕ) → k < length (packings_of t) →
    (dk : Decided) × (cuts : List Cut) × IsLeafAt d t k dk cuts
IsLeafAt-found d t k below = (
  _,
  _,
  record {
    decision = slice_get-get_or (decisions_of d t) k d (omega (arith, length-decisions_of d t));
    packing = slice_get-get_or (packings_of t) k [] below;
  },
)

-- a leaf's place is below the number of leaves
pub IsLeafAt-below : (d : Decided) (t : Tree SplitOn) (k : ℕ) (dk : Decided) (cuts : List Cut) →
    IsLeafAt d t k dk cuts → k < length (packings_of t)
IsLeafAt-below d t k dk cuts leaf = slice_get_within (packings_of t) k cuts leaf.packing

-- a tree's value is no more than that of each leaf
pub tree_value-le-leaf : (g : Graph) (d : Decided) (t : Tree SplitOn) (k : ℕ) (dk : Decided) (cuts : List Cut) →
    IsLeafAt d t k dk cuts →
    tree_value g d t ≤ packing_value g dk cuts
tree_value-le-leaf g d (Leaf last) k dk cuts leaf =
    let (place, same, all) = IsLeafAt-leaf d last k dk cuts leaf in
    le_of_eq (ap (λ x. packing_value g x last) same ∙ ap (packing_value g dk) all)
tree_value-le-leaf g d (Split on o i) k dk cuts leaf =
    ⊎_elim
    (λ (below : k < length (packings_of o)).
    omega (arith, tree_value-le-leaf g (outside_of d on) o k dk cuts (IsLeafAt-outside d on o i k dk cuts below leaf)))
    (λ (past : length (packings_of o) ≤ k).
    omega (
      arith,
      tree_value-le-leaf g (inside_of d on) i (k - length (packings_of o)) dk cuts
          (IsLeafAt-inside d on o i k dk cuts past leaf),
    ))
    (cases_lt k (length (packings_of o)))

-- .. and it is that of one of them
pub tree_value-at_leaf : (g : Graph) (d : Decided) (t : Tree SplitOn) →
    (k : ℕ) × (dk : Decided) × (cuts : List Cut) × IsLeafAt d t k dk cuts × (tree_value g d t ≡ packing_value g dk cuts)
tree_value-at_leaf g d (Leaf cuts) = (0, d, cuts, record { decision = refl; packing = refl }, refl)
tree_value-at_leaf g d (Split on o i) =
    let (j, dj, first, at_j, value_j) = tree_value-at_leaf g (outside_of d on) o in
    let (k, dk, second, at_k, value_k) = tree_value-at_leaf g (inside_of d on) i in
    ⊎_elim
    (λ (less : tree_value g (outside_of d on) o < tree_value g (inside_of d on) i).
    let least : tree_value g d (Split on o i) ≡ packing_value g dj first = omega (arith, value_j) in
    (j, dj, first, IsLeafAt-from_outside d on o i j dj first at_j, least))
    (λ (more : tree_value g (inside_of d on) i ≤ tree_value g (outside_of d on) o).
    let least : tree_value g d (Split on o i) ≡ packing_value g dk second = omega (arith, value_k) in
    (length (packings_of o) + k, dk, second, IsLeafAt-from_inside d on o i k dk second at_k, least))
    (cases_lt (tree_value g (outside_of d on) o) (tree_value g (inside_of d on) i))

-- a tree stays valid where a tree that is valid under a leaf's decision comes in its place
pub IsValidTree-replaced : (g : Graph) (d : Decided) (t new : Tree SplitOn) (k : ℕ) (dk : Decided)
    (cuts : List Cut) → IsValidTree g d t →
    IsLeafAt d t k dk cuts → IsValidTree g dk new → IsValidTree g d (replaced k new t)
IsValidTree-replaced g d (Leaf last) new k dk cuts valid leaf replacement =
    subst (λ x. IsValidTree g x new) (sym (IsLeafAt-leaf d last k dk cuts leaf).1) replacement
IsValidTree-replaced g d (Split on o i) new k dk cuts (undecided, first, second) leaf replacement =
    ⊎_elim
    (λ (below : k < length (packings_of o)).
    let child = IsValidTree-replaced g (outside_of d on) o new k dk cuts first
    (IsLeafAt-outside d on o i k dk cuts below leaf) replacement in
    subst (IsValidTree g d) (sym (replaced-outside on k new o i below)) (undecided, child, second))
    (λ (past : length (packings_of o) ≤ k).
    let more = k - length (packings_of o) in
    let sum : k ≡ length (packings_of o) + more = omega arith in
    let child = IsValidTree-replaced g (inside_of d on) i new more dk cuts second
    (IsLeafAt-inside d on o i k dk cuts past leaf) replacement in
    subst (IsValidTree g d) (sym (replaced-inside on k more new o i sum)) (undecided, first, child))
    (cases_lt k (length (packings_of o)))
