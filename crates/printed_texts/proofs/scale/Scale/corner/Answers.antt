use Rattle.std.proofs.Common.{ap, ◌∙◌}
use Rattle.hanan_grid.specs.Grid.{xs_of, ys_of}
use Rattle.hanan_grid.specs.Names.{point_of_vertex}
use Rattle.hanan_grid.specs.NamesLaws.{point_of_vertex-at}
use Rattle.printed_texts.proofs.scale.Scale.corner.Goals as goal

pub returns : goal.returns
returns c =
    let xs = xs_of c.args.grid.now in
    let ys = ys_of c.args.grid.now in
    c.vertex_point.ensures.point ∙ ap (point_of_vertex xs ys) c.vertex.ensures.vertex
    ∙ point_of_vertex-at xs ys c.args.place.column c.args.place.row c.requires.column
