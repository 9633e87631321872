-- What the splits of a tree are on, where another tree stands in place of a leaf.
use Rattle.std.proofs.Common.{ℕ, ◌≡◌, ◌-◌, ◌<◌, ◌≤◌, ⊎_elim, length, sym, subst, arith}
use Rattle.std.proofs.lemmas.Bool.{cases_lt}
use Rattle.cert_tree.specs.declared.split.SplitOn.{SplitOn}
use Rattle.cert_tree.specs.declared.split.SplitOn.TheVariants as split
use Rattle.cert_tree.specs.Tree.{Tree}
use Rattle.cert_tree.specs.Tree.Tree.{Leaf, Split}
use Rattle.cert_tree.specs.Preorder.{packings_of, split_count}
use Rattle.cert_tree.specs.Replaced.{replaced}
use Rattle.cert_tree.specs.ReplacedLaws.{replaced-outside, replaced-inside}
use Rattle.branch.specs.Kinds.{SplitsEdges, SplitsVertices}

-- all on edges, where both trees' are
pub SplitsEdges-replaced : (leaf : ℕ) (new tree : Tree SplitOn) → SplitsEdges new → SplitsEdges tree →
    SplitsEdges (replaced leaf new tree)
SplitsEdges-replaced leaf new (Leaf cuts) of_new of_tree = of_new
SplitsEdges-replaced leaf new (Split (split.Vertex v) outside inside) of_new of_tree = absurd of_tree
SplitsEdges-replaced leaf new (Split (split.Edge e) outside inside) of_new of_tree =
    let n = length (packings_of outside) in
    ⊎_elim
    (λ (first : leaf < n).
    subst SplitsEdges (sym (replaced-outside (split.Edge e) leaf new outside inside first))
    (SplitsEdges-replaced leaf new outside of_new of_tree.0, of_tree.1))
    (λ (second : n ≤ leaf).
    subst SplitsEdges (sym (replaced-inside (split.Edge e) leaf (leaf - n) new outside inside (omega arith)))
    (of_tree.0, SplitsEdges-replaced (leaf - n) new inside of_new of_tree.1))
    (cases_lt leaf n)

-- all on vertices, where both trees' are
pub SplitsVertices-replaced : (leaf : ℕ) (new tree : Tree SplitOn) → SplitsVertices new → SplitsVertices tree →
    SplitsVertices (replaced leaf new tree)
SplitsVertices-replaced leaf new (Leaf cuts) of_new of_tree = of_new
SplitsVertices-replaced leaf new (Split (split.Edge e) outside inside) of_new of_tree = absurd of_tree
SplitsVertices-replaced leaf new (Split (split.Vertex v) outside inside) of_new of_tree =
    let n = length (packings_of outside) in
    ⊎_elim
    (λ (first : leaf < n).
    subst SplitsVertices (sym (replaced-outside (split.Vertex v) leaf new outside inside first))
    (SplitsVertices-replaced leaf new outside of_new of_tree.0, of_tree.1))
    (λ (second : n ≤ leaf).
    subst SplitsVertices (sym (replaced-inside (split.Vertex v) leaf (leaf - n) new outside inside (omega arith)))
    (of_tree.0, SplitsVertices-replaced (leaf - n) new inside of_new of_tree.1))
    (cases_lt leaf n)

-- a tree of one leaf has none on anything else
pub leaf_splits_vertices : (tree : Tree SplitOn) → split_count tree ≡ 0 → SplitsVertices tree
leaf_splits_vertices (Leaf cuts) none = tt
leaf_splits_vertices (Split on outside inside) none = absurd (omega (arith, none))
