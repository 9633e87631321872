-- What a replaced leaf makes of a tree.
use Rattle.std.proofs.Common.{ℕ, zero, suc, ◌≡◌, ◌+◌, ◌<◌, ◌≤◌, ⊎_elim, List, ◌++◌, length, slice_get, Some, min, refl, ap, sym, ◌∙◌, subst, arith, length-append}
use Rattle.std.proofs.Math.Nat.{min-le_left, min-le_right, le-min, min-eq_left, min-eq_right}
use Rattle.std.proofs.lemmas.Option.{same_Some}
use Rattle.std.proofs.lemmas.Bool.{cases_lt}
use Rattle.lists.specs.ListLaws.{slice_get-append_left}
use Rattle.net_graph.specs.declared.packing.Cut.{Cut}
use Rattle.net_graph.specs.Graph.{Graph}
use Rattle.net_graph.specs.Decision.{Decided}
use Rattle.net_graph.specs.Packing.{IsFeasible}
use Rattle.cert_tree.specs.declared.split.SplitOn.{SplitOn}
use Rattle.cert_tree.specs.Tree.{Tree, split_with}
use Rattle.cert_tree.specs.Tree.Tree.{Leaf, Split}
use Rattle.cert_tree.specs.Preorder.{packings_of, split_count}
use Rattle.cert_tree.specs.Replaced.{replaced}
use Rattle.cert_tree.specs.ReplacedLaws.{replaced-outside, replaced-inside}
use Rattle.cert_tree.specs.Decisions.{outside_of, inside_of, IsUndecidedSplit}
use Rattle.cert_tree.specs.TreeValue.{IsValidTree, tree_value}
use Rattle.branch.specs.Leaves.{DecidedLeaf, leaf_under, leaves_of}
use Rattle.branch.specs.States.{leaf_value}
use Rattle.branch.proofs.lemmas.ListLemmas.{two_at, two_at-append_left, two_at-append_right, place_cases, slice_get-append_right}

-- a tree has a leaf for each packing
pub length-leaves_of : (d : Decided) (t : Tree SplitOn) → length (leaves_of d t) ≡ length (packings_of t)
length-leaves_of d (Leaf cuts) = refl
length-leaves_of d (Split on o i) =
    search (length-append, length-leaves_of (outside_of d on) o, length-leaves_of (inside_of d on) i)

-- .. which is the leaf's
pub packing_at : (d : Decided) (t : Tree SplitOn) (k : ℕ) (leaf : DecidedLeaf) → slice_get (leaves_of d t) k ≡ Some leaf →
    slice_get (packings_of t) k ≡ Some leaf.packing
packing_at d (Leaf cuts) zero leaf at = ap (λ (l : DecidedLeaf). Some l.packing) (same_Some (leaf_under d cuts) leaf at)
packing_at d (Leaf cuts) (suc k) leaf at = absurd cc
packing_at d (Split on o i) k leaf at =
    let os = leaves_of (outside_of d on) o in
    let is = leaves_of (inside_of d on) i in
    ⊎_elim
    (λ (l : (k < length os) × (slice_get os k ≡ Some leaf)).
    slice_get-append_left (packings_of o) (packings_of i) k leaf.packing (packing_at (outside_of d on) o k leaf l.1))
    (λ (r : (m : ℕ) × (k ≡ length os + m) × (slice_get is m ≡ Some leaf)).
    let same : k ≡ length (packings_of o) + r.0 = let e : k ≡ length os + r.0 = r.1 in omega (arith, length-leaves_of (outside_of d on) o) in
    subst (λ (n : ℕ). slice_get (packings_of o ++ packings_of i) n ≡ Some leaf.packing) (sym same)
    (slice_get-append_right (packings_of o) (packings_of i) r.0 leaf.packing (packing_at (inside_of d on) i r.0 leaf r.2)))
    (place_cases os is k leaf at)

module _ (on : SplitOn) (a b : List Cut) where
  new : Tree SplitOn
  new = split_with on a b

  -- the leaves once a leaf is split
  pub leaves_of-replaced : (d : Decided) (t : Tree SplitOn) (k : ℕ) (leaf : DecidedLeaf) → slice_get (leaves_of d t) k ≡ Some leaf →
      leaves_of d (replaced k (split_with on a b) t)
      ≡ two_at (leaves_of d t) k (leaf_under (outside_of leaf.decision on) a) (leaf_under (inside_of leaf.decision on) b)
  leaves_of-replaced d (Leaf cuts) zero leaf at = cc
  leaves_of-replaced d (Leaf cuts) (suc k) leaf at = absurd cc
  leaves_of-replaced d (Split s o i) k leaf at =
      let os = leaves_of (outside_of d s) o in
      let is = leaves_of (inside_of d s) i in
      let x = leaf_under (outside_of leaf.decision on) a in
      let y = leaf_under (inside_of leaf.decision on) b in
      ⊎_elim
      (λ (l : (k < length os) × (slice_get os k ≡ Some leaf)).
      let within : k < length os = l.0 in
      ap (leaves_of d) (replaced-outside s k (split_with on a b) o i (omega (arith, length-leaves_of (outside_of d s) o)))
      ∙ ap (λ xs. xs ++ is) (leaves_of-replaced (outside_of d s) o k leaf l.1) ∙ sym (two_at-append_left os is k x y within))
      (λ (r : (m : ℕ) × (k ≡ length os + m) × (slice_get is m ≡ Some leaf)).
      let same : k ≡ length os + r.0 = r.1 in
      ap (leaves_of d) (replaced-inside s k r.0 (split_with on a b) o i (omega (arith, length-leaves_of (outside_of d s) o)))
      ∙ ap (λ xs. os ++ xs) (leaves_of-replaced (inside_of d s) i r.0 leaf r.2) ∙ sym (two_at-append_right os is k r.0 x y same))
      (place_cases os is k leaf at)

  -- it stays valid where the split is on what is undecided and the new packings are feasible
  pub IsValidTree-replaced : (g : Graph) (d : Decided) (t : Tree SplitOn) (k : ℕ) (leaf : DecidedLeaf) → slice_get (leaves_of d t) k ≡ Some leaf →
      IsValidTree g d t → IsUndecidedSplit g leaf.decision on → IsFeasible g (outside_of leaf.decision on) a →
      IsFeasible g (inside_of leaf.decision on) b → IsValidTree g d (replaced k (split_with on a b) t)
  IsValidTree-replaced g d (Leaf cuts) zero leaf at valid undecided outside inside = grind arith
  IsValidTree-replaced g d (Leaf cuts) (suc k) leaf at valid undecided outside inside = absurd cc
  IsValidTree-replaced g d (Split s o i) k leaf at valid undecided outside inside =
      let os = leaves_of (outside_of d s) o in
      let is = leaves_of (inside_of d s) i in
      ⊎_elim
      (λ (l : (k < length os) × (slice_get os k ≡ Some leaf)).
      let within : k < length os = l.0 in
      subst (IsValidTree g d) (sym (replaced-outside s k (split_with on a b) o i (omega (arith, length-leaves_of (outside_of d s) o))))
      (valid.0, IsValidTree-replaced g (outside_of d s) o k leaf l.1 valid.1 undecided outside inside, valid.2))
      (λ (r : (m : ℕ) × (k ≡ length os + m) × (slice_get is m ≡ Some leaf)).
      let same : k ≡ length os + r.0 = r.1 in
      subst (IsValidTree g d) (sym (replaced-inside s k r.0 (split_with on a b) o i (omega (arith, length-leaves_of (outside_of d s) o))))
      (valid.0, valid.1, IsValidTree-replaced g (inside_of d s) i r.0 leaf r.2 valid.2 undecided outside inside))
      (place_cases os is k leaf at)

  -- it has one split more
  pub split_count-replaced : (d : Decided) (t : Tree SplitOn) (k : ℕ) (leaf : DecidedLeaf) → slice_get (leaves_of d t) k ≡ Some leaf →
      split_count (replaced k (split_with on a b) t) ≡ split_count t + 1
  split_count-replaced d (Leaf cuts) zero leaf at = refl
  split_count-replaced d (Leaf cuts) (suc k) leaf at = absurd cc
  split_count-replaced d (Split s o i) k leaf at =
      let os = leaves_of (outside_of d s) o in
      let is = leaves_of (inside_of d s) i in
      ⊎_elim
      (λ (l : (k < length os) × (slice_get os k ≡ Some leaf)).
      let within : k < length os = l.0 in
      ap split_count (replaced-outside s k (split_with on a b) o i (omega (arith, length-leaves_of (outside_of d s) o)))
      ∙ omega (arith, split_count-replaced (outside_of d s) o k leaf l.1))
      (λ (r : (m : ℕ) × (k ≡ length os + m) × (slice_get is m ≡ Some leaf)).
      let same : k ≡ length os + r.0 = r.1 in
      ap split_count (replaced-inside s k r.0 (split_with on a b) o i (omega (arith, length-leaves_of (outside_of d s) o)))
      ∙ omega (arith, split_count-replaced (inside_of d s) i r.0 leaf r.2))
      (place_cases os is k leaf at)

-- the value of a tree is at least what the value of each leaf is at least
pub le-tree_value : (g : Graph) (d : Decided) (t : Tree SplitOn) (bound : ℕ) →
    ((k : ℕ) (leaf : DecidedLeaf) → slice_get (leaves_of d t) k ≡ Some leaf → bound ≤ leaf_value g leaf) → bound ≤ tree_value g d t
le-tree_value g d (Leaf cuts) bound each = each 0 (leaf_under d cuts) refl
le-tree_value g d (Split on o i) bound each =
    let os = leaves_of (outside_of d on) o in
    let is = leaves_of (inside_of d on) i in
    le-min
    (le-tree_value g (outside_of d on) o bound (λ k leaf at. each k leaf (slice_get-append_left os is k leaf at)))
    (le-tree_value g (inside_of d on) i bound (λ m leaf at. each (length os + m) leaf (slice_get-append_right os is m leaf at)))

-- .. and at most the value of any leaf
pub tree_value-le : (g : Graph) (d : Decided) (t : Tree SplitOn) (k : ℕ) (leaf : DecidedLeaf) → slice_get (leaves_of d t) k ≡ Some leaf →
    tree_value g d t ≤ leaf_value g leaf
tree_value-le g d (Leaf cuts) zero leaf at = grind arith
tree_value-le g d (Leaf cuts) (suc k) leaf at = absurd cc
tree_value-le g d (Split on o i) k leaf at =
    let os = leaves_of (outside_of d on) o in
    let is = leaves_of (inside_of d on) i in
    let x = tree_value g (outside_of d on) o in
    let y = tree_value g (inside_of d on) i in
    ⊎_elim
    (λ (l : (k < length os) × (slice_get os k ≡ Some leaf)).
    omega (arith, min-le_left x y, tree_value-le g (outside_of d on) o k leaf l.1))
    (λ (r : (m : ℕ) × (k ≡ length os + m) × (slice_get is m ≡ Some leaf)).
    omega (arith, min-le_right x y, tree_value-le g (inside_of d on) i r.0 leaf r.2))
    (place_cases os is k leaf at)

-- .. which is the value of some leaf
pub least_leaf : (g : Graph) (d : Decided) (t : Tree SplitOn) →
    (k : ℕ) × (leaf : DecidedLeaf) × (slice_get (leaves_of d t) k ≡ Some leaf) × (leaf_value g leaf ≤ tree_value g d t)
least_leaf g d (Leaf cuts) = (0, leaf_under d cuts, refl, omega arith)
least_leaf g d (Split on o i) =
    let os = leaves_of (outside_of d on) o in
    let is = leaves_of (inside_of d on) i in
    let x = tree_value g (outside_of d on) o in
    let y = tree_value g (inside_of d on) i in
    ⊎_elim
    (λ (less : x < y).
    let (k, leaf, at, low) = least_leaf g (outside_of d on) o in
    let same : min x y ≡ x = min-eq_left (omega arith) in
    (k, leaf, slice_get-append_left os is k leaf at, omega arith))
    (λ (above : y ≤ x).
    let (m, leaf, at, low) = least_leaf g (inside_of d on) i in
    let same : min x y ≡ y = min-eq_right above in
    (length os + m, leaf, slice_get-append_right os is m leaf at, omega arith))
    (cases_lt x y)
