-- Valid trees, and what they bound: the least value among the leaves, each under its own decision (after the branch
-- and bound of Land and Doig 1960; the wording is this project's own).
use Rattle.std.specs.Prelude.{ℕ, min}
use Rattle.net_graph.specs.Graph.{Graph}
use Rattle.net_graph.specs.Decision.{Decided, IsDecisionFor, IsLowerBoundUnder}
use Rattle.net_graph.specs.Packing.{IsFeasible, packing_value}
use Rattle.cert_tree.specs.declared.split.SplitOn.{SplitOn}
use Rattle.cert_tree.specs.Tree.{Tree}
use Rattle.cert_tree.specs.Tree.Tree.{Leaf, Split}
use Rattle.cert_tree.specs.Decisions.{IsUndecidedSplit, outside_of, inside_of}

-- A tree is valid under a decision: a leaf where its packing is feasible, and a split where what it is on is undecided
-- and each child is valid under its decision.
abbrev pub IsValidTree : Graph → Decided → Tree SplitOn → Type 0
IsValidTree g d (Leaf cuts) = IsFeasible g d cuts
IsValidTree g d (Split on outside inside) =
    IsUndecidedSplit g d on × IsValidTree g (outside_of d on) outside × IsValidTree g (inside_of d on) inside

-- the value of a tree under a decision: a leaf has its packing's, and a split the lesser one of its children
abbrev pub tree_value : Graph → Decided → Tree SplitOn → ℕ
tree_value g d (Leaf cuts) = packing_value g d cuts
tree_value g d (Split on outside inside) =
    min (tree_value g (outside_of d on) outside) (tree_value g (inside_of d on) inside)

-- no network that agrees with a decision is shorter than the value of a tree that is valid under it
abbrev pub TreesBoundNetworks : Type 0
TreesBoundNetworks = (g : Graph) (d : Decided) (tree : Tree SplitOn) → IsDecisionFor g d → IsValidTree g d tree →
    IsLowerBoundUnder g d (tree_value g d tree)
