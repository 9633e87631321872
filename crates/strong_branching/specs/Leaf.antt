-- A leaf that is to be split.
use Rattle.std.specs.Prelude.{◌≡◌, length}
use Rattle.net_graph.specs.Decision.{IsDecisionFor, states_of}
use Rattle.net_graph.specs.Packing.{IsFeasible}
use Rattle.dual_ascent.specs.Costs.{costs_of}
use Rattle.strong_branching.specs.declared.leaf.Leaf.{Leaf}

-- the packing is feasible under the decision, the costs are what it leaves, and the own network is of the graph's edges
pub record IsLeafOf (leaf : Leaf) : Type 0 where
  pub decision : IsDecisionFor leaf.graph.now leaf.decision.now
  pub feasible : IsFeasible leaf.graph.now leaf.decision.now leaf.packing.now
  pub costs : leaf.costs.now ≡ costs_of leaf.graph.now.edges (states_of leaf.graph.now leaf.decision.now) leaf.packing.now
  pub own : length leaf.own.now ≡ length leaf.graph.now.edges
