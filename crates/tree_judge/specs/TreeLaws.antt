-- What the steps of a tree tell: a valid tree where they all pass, and they pass where it is one.
use Rattle.std.proofs.Common.{◌≡◌, ◌+◌, ◌≤◌, [], refl, ap, sym, subst, arith}
use Rattle.net_graph.specs.Graph.{Graph}
use Rattle.cert_tree.specs.declared.split.SplitOn.{SplitOn}
use Rattle.cert_tree.specs.Tree.{Tree}
use Rattle.cert_tree.specs.Tree.Tree.{Leaf, Split}
use Rattle.cert_tree.specs.Preorder.{split_count}
use Rattle.cert_tree.specs.TreeValue.{IsValidTree}
use Rattle.tree_judge.specs.Judged.{SoFar, decision_due, with_split}
use Rattle.tree_judge.specs.Runs.{HasWeights, Runs, tree_steps}
use Rattle.tree_judge.specs.RunLaws.{Runs-append, Runs-join}
use Rattle.tree_judge.specs.TreeRead.{tree_read, tree_read-cuts, tree_read-inside, tree_read-splits}
use Rattle.tree_judge.specs.LeafLaws.{leaf_passes, leaf_told}

-- behind steps that tell a tree, a valid one was read
pub record IsTreeRead (g : Graph) (s s' : SoFar) (t : Tree SplitOn) : Type 0 where
  pub valid : IsValidTree g (decision_due g s) t
  pub read : s' ≡ tree_read g s t
  pub few : s.splits ≤ 255 → s'.splits ≤ 255

-- where the steps of a tree pass, whose cuts have weights
pub tree_valid : (g : Graph) (s s' : SoFar) (t : Tree SplitOn) → Runs g s (tree_steps t) s' → HasWeights t →
    s.cuts ≡ [] → IsTreeRead g s s' t
tree_valid g s s' (Leaf cuts) runs weights are =
    let leaf = leaf_told g s s' cuts runs weights are in
    record {
      valid = leaf.1;
      read = leaf.0;
      few = λ before. omega (arith, before, ap (λ (x : SoFar). x.splits) leaf.0);
    }
tree_valid g s s' (Split on outside inside) (m, (may, is), runs) weights are =
    let parts = Runs-append g m s' (tree_steps outside) (tree_steps inside) runs in
    let below = subst (λ x. Runs g x (tree_steps outside) parts.0) is parts.1 in
    let first = tree_valid g (with_split g s on) parts.0 outside below weights.0 are in
    let mid = tree_read g (with_split g s on) outside in
    let behind = subst (λ x. Runs g x (tree_steps inside) s') first.read parts.2 in
    let second = tree_valid g mid s' inside behind weights.1 (tree_read-cuts g (with_split g s on) outside) in
    record {
      valid = (
        may.undecided,
        first.valid,
        subst (λ d. IsValidTree g d inside) (tree_read-inside g s on outside) second.valid,
      );
      read = second.read;
      few = λ before.
          second.few (omega (arith, first.few (omega (arith, may.few)), ap (λ (x : SoFar). x.splits) first.read));
    }

-- the steps of a valid tree pass
pub tree_passes : (g : Graph) (s : SoFar) (t : Tree SplitOn) → IsValidTree g (decision_due g s) t →
    s.splits + split_count t ≤ 255 → s.cuts ≡ [] → Runs g s (tree_steps t) (tree_read g s t)
tree_passes g s (Leaf cuts) valid few are = leaf_passes g s cuts valid are
tree_passes g s (Split on outside inside) valid few are =
    let s1 = with_split g s on in
    let s2 = tree_read g s1 outside in
    let first = tree_passes g s1 outside valid.1 (omega arith) are in
    let second = tree_passes g s2 inside
    (subst (λ d. IsValidTree g d inside) (sym (tree_read-inside g s on outside)) valid.2)
    (omega (arith, tree_read-splits g s1 outside)) (tree_read-cuts g s1 outside) in (
      s1,
      (record { undecided = valid.0; few = omega arith }, refl),
      Runs-join g s1 s2 (tree_read g s2 inside) (tree_steps outside) (tree_steps inside) first second,
    )
