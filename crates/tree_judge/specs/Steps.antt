-- Which steps speak of a graph's edges and vertices alone.
use Rattle.std.specs.Prelude.{◌<◌, length}
use Rattle.net_graph.specs.Graph.{Graph}
use Rattle.cert_tree.specs.declared.split.SplitOn.{SplitOn}
use Rattle.cert_tree.specs.declared.split.SplitOn.TheVariants as split
use Rattle.tree_judge.specs.declared.step.Step.{Step}
use Rattle.tree_judge.specs.declared.step.Step.TheVariants as step

-- what a split is on is an edge or a vertex of the graph
abbrev pub IsSplitIn : Graph → SplitOn → Type 0
IsSplitIn g (split.Edge e) = e < length g.edges
IsSplitIn g (split.Vertex v) = v < g.vertices

-- what the step tells is of edges and vertices of the graph
abbrev pub IsStepIn : Graph → Step → Type 0
IsStepIn g (step.Claims claim) = Unit {0}
IsStepIn g (step.EdgeCount count) = Unit {0}
IsStepIn g (step.Edge e) = e < length g.edges
IsStepIn g step.Tree = Unit {0}
IsStepIn g (step.Split on) = IsSplitIn g on
IsStepIn g (step.Leaf count) = Unit {0}
IsStepIn g (step.Cut weight) = Unit {0}
IsStepIn g step.End = Unit {0}
