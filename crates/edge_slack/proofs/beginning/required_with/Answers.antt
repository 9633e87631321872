use Rattle.std.proofs.Common.{false, replicate, subst}
use Rattle.net_graph.specs.Adds.{Adds}
use Rattle.net_graph.specs.Decision.{IsRequired}
use Rattle.edge_slack.proofs.RequiredLemmas.{ends_put_in}
use Rattle.edge_slack.proofs.beginning.required_with.Goals as goal

pub returns : goal.returns
returns c =
    let g = c.args.g.now in
    let start = c.args.start.now in
    rw (c.add-2.ensures, c.add.ensures, c.in_ok-set.ensures)
    (ends_put_in g c.args.e c.edge-edge.result start.required c.edge-edge.ensures.edge c.requires.edge
    c.edge-edge.ensures.ends.a c.edge-edge.ensures.ends.b
    (subst (λ d. Adds (IsRequired g d) (replicate g.vertices false) start.required) c.requires.start.nothing c.requires.start.required))
