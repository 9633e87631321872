-- What a judged packing is.
use Rattle.std.specs.Prelude.{◌≡◌, ◌*◌, ◌≤◌, length}
use Rattle.net_graph.specs.Graph.{Graph}
use Rattle.net_graph.specs.Decision.{nothing_decided}
use Rattle.net_graph.specs.Packing.{IsFeasible, packing_value}
use Rattle.packing_judge.specs.declared.bound.Bound.{Bound}

-- the packing is feasible where nothing is decided, has no more cuts than the graph has arcs, and its value is told
pub record IsBoundOf (g : Graph) (bound : Bound) : Type 0 where
  pub feasible : IsFeasible g (nothing_decided g) bound.packing
  pub few : length bound.packing ≤ 2 * length g.edges
  pub value : packing_value g (nothing_decided g) bound.packing ≡ bound.value
