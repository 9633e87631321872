-- The rules at nodes.
use Rattle.std.specs.Prelude.{ℕ, ◌<◌, Bool, true, false, length}
use Rattle.graph_reduce.specs.declared.node_rules.NodeRule.{NodeRule}
use Rattle.graph_reduce.specs.declared.node_rules.NodeRule.TheVariants.{Leaf, Passed, TerminalLeaf}
use Rattle.graph_reduce.specs.declared.node_edges.NodeEdges.{NodeEdges}
use Rattle.graph_reduce.specs.declared.node_edges.NodeEdges.TheVariants.{NoEdge, OneEdge, TwoEdges, More}
use Rattle.graph_reduce.specs.State.{State, HasNode, IsTerminal}
use Rattle.graph_reduce.specs.Step.{Rule, Applies}
use Rattle.graph_reduce.specs.Step as step

abbrev pub rule_of : NodeRule → Rule
rule_of Leaf = step.Leaf
rule_of Passed = step.Passed
rule_of TerminalLeaf = step.TerminalLeaf

-- whether a node's edges are as the rule wants them
abbrev pub suits : NodeRule → NodeEdges → Bool
suits Leaf NoEdge = true
suits Leaf (OneEdge place) = true
suits Leaf (TwoEdges one two) = false
suits Leaf More = false
suits Passed NoEdge = false
suits Passed (OneEdge place) = false
suits Passed (TwoEdges one two) = true
suits Passed More = false
suits TerminalLeaf NoEdge = false
suits TerminalLeaf (OneEdge place) = true
suits TerminalLeaf (TwoEdges one two) = false
suits TerminalLeaf More = false

-- a node is left and no terminal, or it is a terminal, as the rule wants it
abbrev pub IsOfKind : State → NodeRule → ℕ → Type 0
IsOfKind s Leaf v = HasNode s v × ¬ IsTerminal s v
IsOfKind s Passed v = HasNode s v × ¬ IsTerminal s v
IsOfKind s TerminalLeaf v = IsTerminal s v

-- a rule applies at a node, and at none below it
pub record IsLowest (s : State) (rule : NodeRule) (v : ℕ) : Type 0 where
  pub node : v < length s.nodes
  pub applies : Applies s (rule_of rule) v
  pub none : (u : ℕ) → u < v → ¬ Applies s (rule_of rule) u
