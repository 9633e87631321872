-- The search is one in the graph of the exchanges, so its network is one of that graph.
use Rattle.std.proofs.Common.{subst, sym}
use Rattle.net_graph.specs.Network.{IsNetwork}
use Rattle.branch.specs.States.{IsNetworkOf}
use Rattle.graph_search.proofs.exchanging.Exchanges.offer_by_shares.Goals as goal

pub shortened_by_shares-requires-clause-network : goal.shortened_by_shares-requires-clause-network
shortened_by_shares-requires-clause-network g c =
    subst (λ h. IsNetwork h c.network-network.result.now) (sym c.requires.graph)
    c.network-network.ensures.network_of.joins

pub offer-requires : goal.offer-requires
offer-requires g c =
    subst (λ h. IsNetworkOf h c.in_ok-shorter.shorter) c.requires.graph (record {
      size = c.in_ok-shorter.ensures.size;
      joins = c.in_ok-shorter.ensures.network;
    })
