-- The search's graph is the given one.
use Rattle.std.proofs.Common.{◌≡◌, subst, sym}
use Rattle.net_graph.specs.Graph.{Graph}
use Rattle.branch.specs.States.{IsNetworkOf}
use Rattle.graph_search.proofs.shortening.offer_shorter.Goals as goal

pub shortened-requires-clause-network : goal.shortened-requires-clause-network
shortened-requires-clause-network _ c =
    let same : c.args.search.now.graph ≡ c.args.g.now = sym c.requires.graph in
    (subst (λ (g : Graph). IsNetworkOf g c.in-Some.shown.now) same c.in-Some.ensures.network_of).joins

pub offer-requires : goal.offer-requires
offer-requires _ c =
    let same : c.args.search.now.graph ≡ c.args.g.now = sym c.requires.graph in
    subst (λ (g : Graph). IsNetworkOf g c.in_ok-shorter.shorter) (sym same)
    (record { size = c.in_ok-shorter.ensures.size; joins = c.in_ok-shorter.ensures.network })
