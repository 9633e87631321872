-- What the bounds of edges may begin with.
use Rattle.std.specs.Prelude.{◌≡◌, ◌*◌, ◌≤◌, false, replicate, length}
use Rattle.net_graph.specs.Adds.{Adds}
use Rattle.net_graph.specs.Graph.{Graph}
use Rattle.net_graph.specs.Decision.{IsDecisionFor, IsRequired, nothing_decided, states_of}
use Rattle.net_graph.specs.Packing.{IsFeasible}
use Rattle.dual_ascent.specs.Costs.{costs_of}
use Rattle.edge_slack.specs.declared.beginning.Beginning.{Beginning}

-- the decision that decides nothing, a packing that is feasible under it and has at most two cuts for each edge, and
-- what this leaves of the rooms of all arcs; and the set of the required vertices
pub record IsBeginning (g : Graph) (b : Beginning) : Type 0 where
  pub nothing : b.decision ≡ nothing_decided g
  pub decides : IsDecisionFor g b.decision
  pub feasible : IsFeasible g b.decision b.packing
  pub few : length b.packing ≤ 2 * length g.edges
  pub left : b.costs ≡ costs_of g.edges (states_of g b.decision) b.packing
  pub required : Adds (IsRequired g b.decision) (replicate g.vertices false) b.required
