use Rattle.std.proofs.Common.{subst, sym}
use Rattle.std.proofs.lemmas.Result.{IfOk-weaker}
use Rattle.hanan_grid.specs.Grid.{hanan_grid_of}
use Rattle.edge_slack.specs.EdgeBound.{IsInSomeNetwork}
use Rattle.slack_tools.proofs.BoundsLemmas.{BoundsEdge-packing}
use Rattle.slack_tools.proofs.GridLemmas.{IsInSomeNetwork-grid}
use Rattle.slack_tools.proofs.bounds.plain_bound.Goals as goal

pub edge_bound-requires : goal.edge_bound-requires
edge_bound-requires g c =
    subst (λ x. IsInSomeNetwork x c.args.edge) (sym c.graph-graph.ensures.graph)
    (IsInSomeNetwork-grid c.args.grid.now c.args.edge c.graph-graph.ensures.sound c.requires)

pub returns : goal.returns
returns g c =
    let found = c.in_ok-packing.ensures in
    IfOk-weaker c.value_of.result _ _
    (λ v is. BoundsEdge-packing c.graph-graph.result.now (hanan_grid_of c.args.grid.now) c.args.edge v
    c.in_ok-packing.packing c.graph-graph.ensures.graph is found.value found.bound found.total)
    c.value_of.ensures
