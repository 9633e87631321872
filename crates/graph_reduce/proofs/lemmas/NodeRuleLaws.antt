-- A rule applies at a node where the node is of the rule's kind and its edges suit, and only there.
use Rattle.std.specs.Prelude.{ℕ, ◌≡◌, ◌<◌, true, length}
use Rattle.std.proofs.Common.{refl}
use Rattle.std.proofs.lemmas.List.Elements.{All-contains}
use Rattle.std.proofs.lemmas.Option.{slice_get_within}
use Rattle.graph_reduce.specs.declared.node_edges.NodeEdges.{NodeEdges}
use Rattle.graph_reduce.specs.declared.node_edges.NodeEdges.TheVariants.{NoEdge, OneEdge, TwoEdges, More}
use Rattle.graph_reduce.specs.declared.node_rules.NodeRule.{NodeRule}
use Rattle.graph_reduce.specs.declared.node_rules.NodeRule.TheVariants.{Leaf, Passed, TerminalLeaf}
use Rattle.graph_reduce.specs.State.{State}
use Rattle.graph_reduce.specs.Step.{Applies}
use Rattle.graph_reduce.specs.Survey.{IsSeenTo, IsNumbered}
use Rattle.graph_reduce.specs.NodeRules.{rule_of, suits, IsOfKind}
use Rattle.graph_reduce.proofs.lemmas.NodeKinds.{leaf_not_two, leaf_not_more, passed_not_none, passed_not_one, passed_not_more, forced_not_none, forced_not_two, forced_not_more, lone_applies, leaf_applies, passed_applies, forced_applies, leaf_node, passed_node, forced_node}

pub kind_from : (s : State) (v : ℕ) (rule : NodeRule) → Applies s (rule_of rule) v → IsOfKind s rule v
kind_from s v Leaf applies = leaf_node s v applies
kind_from s v Passed applies = passed_node s v applies
kind_from s v TerminalLeaf applies = forced_node s v applies

pub suits_from : (s : State) (v : ℕ) (rule : NodeRule) (edges : NodeEdges) → IsSeenTo s v (length s.edges) edges →
    Applies s (rule_of rule) v → suits rule edges ≡ true
suits_from s v Leaf NoEdge seen applies = refl
suits_from s v Leaf (OneEdge place) seen applies = refl
suits_from s v Leaf (TwoEdges one two) seen applies = absurd (leaf_not_two s v one two seen applies)
suits_from s v Leaf More seen applies = absurd (leaf_not_more s v seen applies)
suits_from s v Passed NoEdge seen applies = absurd (passed_not_none s v seen applies)
suits_from s v Passed (OneEdge place) seen applies = absurd (passed_not_one s v place seen applies)
suits_from s v Passed (TwoEdges one two) seen applies = refl
suits_from s v Passed More seen applies = absurd (passed_not_more s v seen applies)
suits_from s v TerminalLeaf NoEdge seen applies = absurd (forced_not_none s v seen applies)
suits_from s v TerminalLeaf (OneEdge place) seen applies = refl
suits_from s v TerminalLeaf (TwoEdges one two) seen applies = absurd (forced_not_two s v one two seen applies)
suits_from s v TerminalLeaf More seen applies = absurd (forced_not_more s v seen applies)

pub applies_from : (s : State) (v : ℕ) (rule : NodeRule) (edges : NodeEdges) → IsSeenTo s v (length s.edges) edges →
    IsOfKind s rule v → suits rule edges ≡ true → Applies s (rule_of rule) v
applies_from s v Leaf NoEdge seen kind suit = lone_applies s v kind.0 kind.1 seen
applies_from s v Leaf (OneEdge place) seen kind suit = leaf_applies s v kind.0 kind.1 place seen
applies_from s v Leaf (TwoEdges one two) seen kind suit = absurd cc
applies_from s v Leaf More seen kind suit = absurd cc
applies_from s v Passed NoEdge seen kind suit = absurd cc
applies_from s v Passed (OneEdge place) seen kind suit = absurd cc
applies_from s v Passed (TwoEdges one two) seen kind suit = passed_applies s v kind.0 kind.1 one two seen
applies_from s v Passed More seen kind suit = absurd cc
applies_from s v TerminalLeaf NoEdge seen kind suit = absurd cc
applies_from s v TerminalLeaf (OneEdge place) seen kind suit = forced_applies s v kind place seen
applies_from s v TerminalLeaf (TwoEdges one two) seen kind suit = absurd cc
applies_from s v TerminalLeaf More seen kind suit = absurd cc

-- the node has a number
pub kind_below : (s : State) (v : ℕ) (rule : NodeRule) → IsNumbered s → IsOfKind s rule v → v < length s.nodes
kind_below s v Leaf numbered kind = slice_get_within s.nodes v true kind.0
kind_below s v Passed numbered kind = slice_get_within s.nodes v true kind.0
kind_below s v TerminalLeaf numbered kind = All-contains (λ t. t < length s.nodes) s.terminals v numbered.terminals kind

-- where two edges of a node become one, it has two
pub passed_seen : (s : State) (v : ℕ) (edges : NodeEdges) → IsSeenTo s v (length s.edges) edges →
    Applies s (rule_of Passed) v → ((one two : ℕ) → edges ≡ TwoEdges one two → ⊥) → ⊥
passed_seen s v NoEdge seen applies other = passed_not_none s v seen applies
passed_seen s v (OneEdge place) seen applies other = passed_not_one s v place seen applies
passed_seen s v (TwoEdges one two) seen applies other = other one two refl
passed_seen s v More seen applies other = passed_not_more s v seen applies

-- where a terminal's edge is forced, it has one
pub forced_seen : (s : State) (v : ℕ) (edges : NodeEdges) → IsSeenTo s v (length s.edges) edges →
    Applies s (rule_of TerminalLeaf) v → ((place : ℕ) → edges ≡ OneEdge place → ⊥) → ⊥
forced_seen s v NoEdge seen applies other = forced_not_none s v seen applies
forced_seen s v (OneEdge place) seen applies other = other place refl
forced_seen s v (TwoEdges one two) seen applies other = forced_not_two s v one two seen applies
forced_seen s v More seen applies other = forced_not_more s v seen applies
