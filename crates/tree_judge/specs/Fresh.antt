-- What was told before the first step of a tree.
use Rattle.std.proofs.Common.{ℕ, ◌≡◌, [], ◌∷◌, ap, ◌∙◌}
use Rattle.net_graph.specs.Decision.{nothing_decided}
use Rattle.net_graph.specs.Graph.{Graph}
use Rattle.tree_judge.specs.Judged.{SoFar, with_edge}

-- nothing was told of the tree: its top is due
pub record IsFresh (g : Graph) (s : SoFar) : Type 0 where
  pub decisions : s.decisions ≡ nothing_decided g ∷ []
  pub splits : s.splits ≡ 0
  pub cuts : s.cuts ≡ []
  pub values : s.values ≡ []

-- what is told of edges tells nothing of it
pub IsFresh-edge : (g : Graph) (e : ℕ) (s s' : SoFar) → IsFresh g s → s' ≡ with_edge s e → IsFresh g s'
IsFresh-edge g e s s' fresh is = record {
  decisions = ap (λ (x : SoFar). x.decisions) is ∙ fresh.decisions;
  splits = ap (λ (x : SoFar). x.splits) is ∙ fresh.splits;
  cuts = ap (λ (x : SoFar). x.cuts) is ∙ fresh.cuts;
  values = ap (λ (x : SoFar). x.values) is ∙ fresh.values;
}
