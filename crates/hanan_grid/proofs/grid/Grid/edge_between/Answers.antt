use Rattle.std.proofs.Common.{refl, arith}
use Rattle.std.proofs.lemmas.Bool.{false≢true}
use Rattle.hanan_grid.proofs.lemmas.Found.{name_from_horizontal, name_from_vertical, beside_by_edge}
use Rattle.hanan_grid.proofs.grid.Grid.edge_between.Goals as goal

pub returns-then-is_right_of-clause-name : goal.returns-then-is_right_of-clause-name
returns-then-is_right_of-clause-name c = grind (arith, c.if-is_right_of.ensures.0 refl, name_from_horizontal)

pub returns-then-is_above-clause-name : goal.returns-then-is_above-clause-name
returns-then-is_above-clause-name c = name_from_vertical c.args.self.now c.vertical_edge.result c.args.from c.args.to c.requires.from_column c.vertical_edge.ensures.edge (c.if-is_above.ensures.0 refl)

pub returns-else-is_above-clause-none : goal.returns-else-is_above-clause-none
returns-else-is_above-clause-none c =
    grind (arith, beside_by_edge, false≢true)
