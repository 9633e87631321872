-- What an exchange hands out is feasible, so its cuts are sets of the graph's vertices.
use Rattle.std.proofs.Common.{Option, subst}
use Rattle.std.specs.Option.{IfSome}
use Rattle.packing_judge.specs.declared.bound.Bound.{Bound}
use Rattle.packing_judge.specs.Bound.{IsBoundOf}
use Rattle.graph_search.proofs.children.packing_of.Goals as goal

pub returns-in-Some : goal.returns-in-Some
returns-in-Some c = λ g aim wanted of.
    let found : IfSome c.bound_of.result (IsBoundOf g) = c.bound_of.ensures g aim wanted of in
    let bound : IsBoundOf g c.in-Some.bound = subst (λ (o : Option Bound). IfSome o (IsBoundOf g)) c.in-Some.is found in
    λ k d within. (bound.feasible.cuts k d within).1.size
