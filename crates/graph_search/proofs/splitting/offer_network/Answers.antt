-- A network of the graph is one of the search's graph.
use Rattle.std.proofs.Common.{◌≡◌, Bool, List, subst, sym}
use Rattle.net_graph.specs.Graph.{Graph}
use Rattle.branch.specs.States.{IsNetworkOf}
use Rattle.graph_search.proofs.splitting.offer_network.Goals as goal

pub offer-requires : goal.offer-requires
offer-requires g c =
    let same : c.in_ok-copy.field-0 ≡ c.args.network.now = c.in_ok-copy.ensures in
    subst (λ (set : List Bool). IsNetworkOf c.args.search.now.graph set) (sym same)
    (subst (λ (h : Graph). IsNetworkOf h c.args.network.now) c.requires.graph
    (record { size = c.requires.size; joins = c.in_ok-joins.ensures.0 c.if-branch.true }))
