-- The graph that a decision leaves has the vertices and edges of the search's graph.
use Rattle.std.proofs.Common.{◌≡◌, ◌∙◌, Bool, List, length, ap, subst}
use Rattle.std.specs.Option.{IfSome}
use Rattle.net_graph.specs.Graph.{Graph}
use Rattle.graph_search.proofs.splitting.Splitting.child.Goals as goal

pub returns : goal.returns
returns g c =
    let same : c.args.graph.now ≡ c.args.search.now.graph = c.requires.graph in
    let edges : length c.in-Some-2.network ≡ length c.args.graph.now.edges =
    subst (λ o. IfSome o (λ (set : List Bool). length set ≡ length c.args.graph.now.edges)) c.in-Some-2.is
    c.in_ok-network.ensures in
    let vertices : c.in-Some.under.vertices ≡ c.args.graph.now.vertices =
    subst (λ o. IfSome o (λ (h : Graph). h.vertices ≡ c.args.graph.now.vertices)) c.in-Some.is
    c.in_ok-under.ensures.vertices in
    let sizes = c.packing_of.ensures c.in-Some.under _ _ c.in_ok-found.ensures in
    record {
      plan = edges ∙ ap (λ (h : Graph). length h.edges) same;
      sizes = λ k d within. sizes k d within ∙ vertices ∙ ap (λ (h : Graph). h.vertices) same;
    }
