-- Steps that pass, one after another, and the steps that tell of edges and of a tree.
use Rattle.std.specs.Prelude.{ℕ, ◌≡◌, ◌<◌, Bool, List, [], ◌∷◌, ◌++◌, length, map, Option, Some, None, All}
use Rattle.net_graph.specs.declared.packing.Cut.{Cut}
use Rattle.net_graph.specs.Graph.{Graph}
use Rattle.cert_tree.specs.declared.split.SplitOn.{SplitOn}
use Rattle.cert_tree.specs.Tree.{Tree}
use Rattle.cert_tree.specs.Tree.Tree.{Leaf, Split}
use Rattle.tree_judge.specs.declared.step.Step.{Step}
use Rattle.tree_judge.specs.declared.step.Step.TheVariants as step
use Rattle.tree_judge.specs.Judged.{SoFar, Passes}

-- a step, with the members of a cut
abbrev pub StepTold : Type 0
StepTold = Step × Option (List Bool)

-- each of these steps passes behind what was told, and this is told behind the last of them
abbrev pub Runs : Graph → SoFar → List StepTold → SoFar → Type 0
Runs g s [] s' = s' ≡ s
Runs g s (t ∷ ts) s' = (m : SoFar) × Passes g s t.0 t.1 m × Runs g m ts s'

-- the steps that tell edges
abbrev pub edge_steps : List ℕ → List StepTold
edge_steps edges = map (λ e. (step.Edge e, None)) edges

-- the step that tells a cut
abbrev pub cut_step : Cut → StepTold
cut_step c = (step.Cut c.weight, Some c.members)

-- the steps that tell a tree
abbrev pub tree_steps : Tree SplitOn → List StepTold
tree_steps (Leaf cuts) = (step.Leaf (length cuts), None) ∷ map cut_step cuts
tree_steps (Split on outside inside) = (step.Split on, None) ∷ (tree_steps outside ++ tree_steps inside)

-- a cut has a weight of at least 1
abbrev pub HasWeight : Cut → Type 0
HasWeight c = 0 < c.weight

-- so has each of a tree
abbrev pub HasWeights : Tree SplitOn → Type 0
HasWeights (Leaf cuts) = All HasWeight cuts
HasWeights (Split on outside inside) = HasWeights outside × HasWeights inside
