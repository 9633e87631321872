use Rattle.std.proofs.Common.{◌∙◌, sym}
use Rattle.hanan_grid.specs.Grid.{xs_of, ys_of}
use Rattle.hanan_grid.specs.GridLaws.{IsRising-xs_of, IsRising-ys_of}
use Rattle.hanan_grid.proofs.lemmas.Found.{vertex_of-crossing}
use Rattle.hanan_grid.proofs.lemmas.Readings.{point_from_place}
use Rattle.hanan_grid.proofs.grid.Grid.vertex_at.Goals as goal

pub returns-clause-vertex : goal.returns-clause-vertex
returns-clause-vertex c =
    let ps = c.args.self.now in
    c.vertex.ensures.vertex ∙ vertex_of-crossing (xs_of ps) (ys_of ps) c.in_ok-place.place.column c.in_ok-place.place.row c.args.point (IsRising-xs_of ps) (IsRising-ys_of ps) c.in_ok-place.ensures.column c.in_ok-place.ensures.row c.in_ok-place.ensures.point

pub returns-clause-point : goal.returns-clause-point
returns-clause-point c =
    let ps = c.args.self.now in
    sym (point_from_place (xs_of ps) (ys_of ps) c.vertex.result c.in_ok-place.place.column c.in_ok-place.place.row c.args.point c.in_ok-place.ensures.column (sym c.vertex.ensures.vertex) (sym c.in_ok-place.ensures.point))
