-- The reduction of a graph keeps its networks.
use Rattle.std.specs.Prelude.{ℕ, ◌≡◌, ◌+◌, Bool, List}
use Rattle.std.proofs.Common.{arith}
use Rattle.net_graph.specs.Flags.{has}
use Rattle.net_graph.specs.Graph.{Graph, IsGraph}
use Rattle.net_graph.specs.Network.{IsNetwork, IsLowerBound, length_of}
use Rattle.graph_reduce.specs.State.{State, start_of}
use Rattle.graph_reduce.specs.Reduction.{Reduction, reduction_of, lift_of}
use Rattle.graph_reduce.specs.Lifting.{HasNetworkWithin, KeepsNetworks, LiftingKeepsLength}
use Rattle.graph_reduce.proofs.lemmas.Beginning.{net_at_start, value_at_start, network_of_start, length_of_start}
use Rattle.graph_reduce.proofs.lemmas.Ending.{spread, gathered}
use Rattle.graph_reduce.proofs.lemmas.Keeping.{Widened, Keeps}
use Rattle.graph_reduce.proofs.lemmas.Renumbering.{net_from_network, value_of_spread, lift_into, lift_back, network_from_net, length_of_gathered}
use Rattle.graph_reduce.proofs.lemmas.Soundness.{IsSound, IsSound-start}
use Rattle.graph_reduce.proofs.lemmas.Steps.{steps_keep}

module _ (g : Graph) (graph : IsGraph g) (s : State) (keeps : Keeps (start_of g) s) (sound : IsSound s) where
  abbrev r : Reduction
  r = reduction_of s

  widened : (set : List Bool) → IsNetwork r.graph set → Widened (start_of g) s (spread s.edges set)
  widened set network = keeps.widens (spread s.edges set) (net_from_network s sound set network)

  lifts : (set : List Bool) → IsNetwork r.graph set → IsNetwork g (lift_of r set)
  lifts set network =
      let wide = widened set network in
      network_of_start g graph wide.F wide.net (lift_of r set)
      (λ e is. wide.back e (lift_into s sound set e is)) (λ e is. lift_back s sound set e (wide.into e is))

  long : (set : List Bool) → IsNetwork r.graph set → length_of g (lift_of r set) ≡ length_of r.graph set + r.offset
  long set network = grind (arith, widened set network, length_of_start, lift_into, lift_back, value_of_spread)

  nothing_lost : (other : List Bool) → IsNetwork g other → HasNetworkWithin r (length_of g other)
  nothing_lost other network =
      let narrow = keeps.narrows (has other) (net_at_start g graph other network) in
      record {
        set = gathered s.edges narrow.G;
        is = network_from_net s sound narrow.G narrow.net;
        short = omega (arith, length_of_gathered s sound narrow.G, narrow.short, value_at_start g graph other);
      }

  bounds : (bound : ℕ) → IsLowerBound r.graph bound → IsLowerBound g (bound + r.offset)
  bounds bound lower other network = grind (arith, nothing_lost)

  keeps_networks : KeepsNetworks g r
  keeps_networks = record {
    lifts = lifts;
    length = long;
    nothing_lost = nothing_lost;
    bounds = bounds;
    shortest = λ set shortest. search (lifts, long, bounds);
  }

pub lifting_keeps_length_lem : LiftingKeepsLength
lifting_keeps_length_lem g r graph is = grind (arith, steps_keep, IsSound-start, keeps_networks)
