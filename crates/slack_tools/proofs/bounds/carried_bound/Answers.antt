use Rattle.std.proofs.Common.{subst, sym}
use Rattle.hanan_grid.specs.Grid.{hanan_grid_of}
use Rattle.edge_slack.specs.Beginning.{IsBeginning}
use Rattle.edge_slack.specs.EdgeBound.{IsInSomeNetwork}
use Rattle.slack_tools.proofs.BoundsLemmas.{BoundsEdge-found}
use Rattle.slack_tools.proofs.GridLemmas.{IsInSomeNetwork-grid}
use Rattle.slack_tools.proofs.bounds.carried_bound.Goals as goal

pub carried_edge_bound-requires-clause-some : goal.carried_edge_bound-requires-clause-some
carried_edge_bound-requires-clause-some g c =
    subst (λ x. IsInSomeNetwork x c.args.edge) (sym c.graph.ensures.graph)
    (IsInSomeNetwork-grid c.args.grid.now c.args.edge c.graph.ensures.sound c.requires.edge)

pub carried_edge_bound-requires-clause-start : goal.carried_edge_bound-requires-clause-start
carried_edge_bound-requires-clause-start g c =
    subst (λ x. IsBeginning x c.args.start.now) (sym c.graph.ensures.graph) c.requires.start

pub returns : goal.returns
returns g c =
    let found = c.carried_edge_bound.ensures in
    BoundsEdge-found c.graph.result.now (hanan_grid_of c.args.grid.now) c.args.edge c.carried_edge_bound.result
    c.graph.ensures.graph found.value found.bound found.total
