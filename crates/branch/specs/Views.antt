-- What a search tells of a leaf.
use Rattle.std.specs.Prelude.{◌≡◌, length}
use Rattle.net_graph.specs.Graph.{Graph}
use Rattle.net_graph.specs.Decision.{IsDecisionFor, states_of}
use Rattle.net_graph.specs.Packing.{IsFeasible}
use Rattle.dual_ascent.specs.Costs.{costs_of}
use Rattle.branch.specs.declared.view.LeafView.{LeafView}

-- the packing is feasible under the decision, the costs are what it leaves, and the own network is of the graph's edges
pub record IsViewIn (g : Graph) (view : LeafView) : Type 0 where
  pub decision : IsDecisionFor g view.decision.now
  pub feasible : IsFeasible g view.decision.now view.packing.now
  pub costs : view.costs.now ≡ costs_of g.edges (states_of g view.decision.now) view.packing.now
  pub own : length view.own.now ≡ length g.edges
