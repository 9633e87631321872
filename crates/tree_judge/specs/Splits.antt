-- Which split may stand under a decision, and why a line of a split is wrong.
use Rattle.std.specs.Prelude.{ℕ, ◌≡◌, ◌<◌, ◌≤◌}
use Rattle.net_graph.specs.Graph.{Graph}
use Rattle.net_graph.specs.Decision.{Decided}
use Rattle.cert_tree.specs.declared.split.SplitOn.{SplitOn}
use Rattle.cert_tree.specs.declared.split.SplitOn.TheVariants as split
use Rattle.cert_tree.specs.Decisions.{IsUndecidedSplit}
use Rattle.tree_judge.specs.declared.cause.Cause.{Cause}
use Rattle.tree_judge.specs.declared.cause.Cause.TheVariants as cause

-- what the split is on is undecided, and fewer than 255 splits stand before it
pub record MaySplitOn (g : Graph) (d : Decided) (splits : ℕ) (on : SplitOn) : Type 0 where
  pub undecided : IsUndecidedSplit g d on
  pub few : splits < 255

-- what the split is on is undecided, and 255 splits stand before it
pub record IsTooDeep (g : Graph) (d : Decided) (splits : ℕ) (on : SplitOn) : Type 0 where
  pub undecided : IsUndecidedSplit g d on
  pub many : 255 ≤ splits

-- why the line n with a split on this is wrong under a decision, behind so many splits
abbrev pub SplitOnFault : Graph → Decided → ℕ → SplitOn → ℕ → Cause → Type 0
SplitOnFault g d splits on n (cause.Decided line edge) =
    (line ≡ n) × (on ≡ split.Edge edge) × (IsUndecidedSplit g d on → ⊥)
SplitOnFault g d splits on n (cause.DecidedVertex line vertex) =
    (line ≡ n) × (on ≡ split.Vertex vertex) × (IsUndecidedSplit g d on → ⊥)
SplitOnFault g d splits on n (cause.TooDeep line) = (line ≡ n) × IsTooDeep g d splits on
SplitOnFault g d splits on n cause = ⊥
