use Rattle.std.proofs.Common.{◌∙◌, sym, arith}
use Rattle.hanan_grid.specs.Names.{NamesNoEdge}
use Rattle.hanan_grid.specs.NamesLaws.{same_between}
use Rattle.hanan_grid.proofs.lemmas.Found.{IfNone_always, IfNone_then, crossings_of_name}
use Rattle.hanan_grid.proofs.grid.Grid.edge_named.Goals as goal

pub returns-in_err-from-clause-none : goal.returns-in_err-from-clause-none
returns-in_err-from-clause-none c =
    let none : NamesNoEdge c.args.self.now c.args.name.now = λ e below same.
    let ends = crossings_of_name c.args.self.now e c.named_points.result.0 c.named_points.result.1 below (same ∙ sym c.named_points.ensures) in
    c.in_err-from.ensures.none ends.0 in
    IfNone_always _ _ none

pub returns-in_err-to-clause-none : goal.returns-in_err-to-clause-none
returns-in_err-to-clause-none c =
    let none : NamesNoEdge c.args.self.now c.args.name.now = λ e below same.
    let ends = crossings_of_name c.args.self.now e c.named_points.result.0 c.named_points.result.1 below (same ∙ sym c.named_points.ensures) in
    c.in_err-to.ensures.none ends.1 in
    IfNone_always _ _ none

pub returns-clause-none : goal.returns-clause-none
returns-clause-none c = grind (arith, same_between, IfNone_then)
