-- Nodes that are due: those at which a rule may apply.
use Rattle.std.specs.Prelude.{ℕ, ◌≡◌, ◌⊎◌}
use Rattle.std.specs.BTreeSet.{BTreeSet}
use Rattle.graph_reduce.specs.declared.due.Due.{Due}
use Rattle.graph_reduce.specs.declared.node_rules.NodeRule.{NodeRule}
use Rattle.graph_reduce.specs.declared.node_rules.NodeRule.TheVariants.{Leaf, Passed, TerminalLeaf}
use Rattle.graph_reduce.specs.declared.node_edges.NodeEdges.{NodeEdges}
use Rattle.graph_reduce.specs.declared.node_edges.NodeEdges.TheVariants.{NoEdge, OneEdge, TwoEdges, More}
use Rattle.graph_reduce.specs.NumberSets.{IsIn}
use Rattle.graph_reduce.specs.State.{Bundle, State, HasEdge}
use Rattle.graph_reduce.specs.Step.{Applies}
use Rattle.graph_reduce.specs.NodeRules.{rule_of}

-- the nodes that are due by the rule
abbrev pub due_by : Due → NodeRule → BTreeSet ℕ
due_by due Leaf = due.leaves
due_by due Passed = due.passed
due_by due TerminalLeaf = due.terminals

-- the node is due by each rule
abbrev pub IsDue : Due → ℕ → Type 0
IsDue due v = (rule : NodeRule) → IsIn (due_by due rule) v

-- what was due still is
abbrev pub StaysDue : Due → Due → Type 0
StaysDue old new = (rule : NodeRule) (v : ℕ) → IsIn (due_by old rule) v → IsIn (due_by new rule) v

-- the set has each node at which the rule applies
abbrev pub HasAllAt : State → NodeRule → BTreeSet ℕ → Type 0
HasAllAt s rule set = (v : ℕ) → Applies s (rule_of rule) v → IsIn set v

-- so for each rule
abbrev pub AreDue : State → Due → Type 0
AreDue s due = (rule : NodeRule) → HasAllAt s rule (due_by due rule)

-- the place is one of at most two that are told
abbrev pub IsTold : NodeEdges → ℕ → Type 0
IsTold NoEdge n = ⊥
IsTold (OneEdge place) n = n ≡ place
IsTold (TwoEdges one two) n = (n ≡ one) ⊎ (n ≡ two)
IsTold More n = ⊥

-- each place that is told holds an edge
abbrev pub AreHeld : State → NodeEdges → Type 0
AreHeld s edges = (n : ℕ) → IsTold edges n → (x : Bundle) × HasEdge s n x

-- the ends of each edge that is told are due
abbrev pub AreEndsDue : State → NodeEdges → Due → Type 0
AreEndsDue s edges due = (n : ℕ) (x : Bundle) → IsTold edges n → HasEdge s n x → IsDue due x.edge.a × IsDue due x.edge.b
