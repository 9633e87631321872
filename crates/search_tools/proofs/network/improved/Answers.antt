-- The local search works in the grid of the points.
use Rattle.std.proofs.Common.{◌∙◌, ◌≤◌, length, ap, subst, sym, refl}
use Rattle.net_graph.specs.Graph.{Graph}
use Rattle.net_graph.specs.Network.{IsNetwork, length_of}
use Rattle.search_tools.proofs.network.improved.Goals as goal

pub shortened-requires-clause-size : goal.shortened-requires-clause-size
shortened-requires-clause-size c = c.requires.size ∙ ap (λ (g : Graph). length g.edges) (sym c.graph.ensures.graph)

pub shortened-requires-clause-network : goal.shortened-requires-clause-network
shortened-requires-clause-network c = subst (λ (g : Graph). IsNetwork g c.args.found.network) (sym c.graph.ensures.graph) c.requires.joins

pub returns : goal.returns
returns c = record {
  network = record {
    size = c.in_ok-network.ensures.size ∙ ap (λ (g : Graph). length g.edges) c.graph.ensures.graph;
    joins = subst (λ (g : Graph). IsNetwork g c.in_ok-network.network) c.graph.ensures.graph c.in_ok-network.ensures.network;
  };
  short =
      subst (λ (g : Graph). length_of g c.in_ok-network.network ≤ length_of g c.args.found.network) c.graph.ensures.graph c.in_ok-network.ensures.length;
  note = refl;
}
