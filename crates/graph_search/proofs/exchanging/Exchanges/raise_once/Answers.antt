-- What an exchange hands out is feasible in the search's graph, with few cuts.
use Rattle.std.proofs.Common.{◌*◌, ◌≤◌, length, Option, subst}
use Rattle.std.specs.Option.{IfSome}
use Rattle.net_graph.specs.Graph.{Graph}
use Rattle.net_graph.specs.Decision.{nothing_decided}
use Rattle.net_graph.specs.Packing.{IsFeasible}
use Rattle.packing_judge.specs.declared.bound.Bound.{Bound}
use Rattle.packing_judge.specs.Bound.{IsBoundOf}
use Rattle.graph_search.proofs.exchanging.Exchanges.raise_once.Goals as goal

pub raise-requires-clause-feasible : goal.raise-requires-clause-feasible
raise-requires-clause-feasible g c =
    let of : IfSome c.bound_of.result (IsBoundOf c.args.self.now.graph.now) =
    c.bound_of.ensures c.args.self.now.graph.now _ _ c.in_ok-found.ensures in
    let bound : IsBoundOf c.args.self.now.graph.now c.in-Some.bound =
    subst (λ (o : Option Bound). IfSome o (IsBoundOf c.args.self.now.graph.now)) c.in-Some.is of in
    subst (λ (h : Graph). IsFeasible h (nothing_decided h) c.in-Some.bound.packing)
    c.requires.graph bound.feasible

pub raise-requires-clause-few : goal.raise-requires-clause-few
raise-requires-clause-few g c =
    let of : IfSome c.bound_of.result (IsBoundOf c.args.self.now.graph.now) =
    c.bound_of.ensures c.args.self.now.graph.now _ _ c.in_ok-found.ensures in
    let bound : IsBoundOf c.args.self.now.graph.now c.in-Some.bound =
    subst (λ (o : Option Bound). IfSome o (IsBoundOf c.args.self.now.graph.now)) c.in-Some.is of in
    subst (λ (h : Graph). length c.in-Some.bound.packing ≤ 2 * length h.edges)
    c.requires.graph bound.few
