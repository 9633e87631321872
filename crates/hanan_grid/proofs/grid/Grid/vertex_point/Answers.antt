use Rattle.std.proofs.Common.{arith}
use Rattle.hanan_grid.specs.Grid.{xs_of, ys_of}
use Rattle.hanan_grid.specs.GridLaws.{IsRising-xs_of, IsRising-ys_of}
use Rattle.hanan_grid.specs.NamesLaws.{vertex_of-point_of_vertex}
use Rattle.hanan_grid.proofs.lemmas.Readings.{point_from_place}
use Rattle.hanan_grid.proofs.grid.Grid.vertex_point.Goals as goal

pub returns-clause-point : goal.returns-clause-point
returns-clause-point c = grind (arith, point_from_place)

pub returns-clause-vertex : goal.returns-clause-vertex
returns-clause-vertex c =
    let ps = c.args.self.now in
    rw (returns-clause-point c) (vertex_of-point_of_vertex (xs_of ps) (ys_of ps) c.args.vertex (IsRising-xs_of ps) (IsRising-ys_of ps) c.requires)
