-- What the readings of a grid give, by its definitions.
use Rattle.std.proofs.Common.{ℕ, ◌≡◌, ◌<◌, ℤ, List, length, Some, refl, ap, ◌∙◌, sym}
use Rattle.std.specs.Prelude.{slice_get}
use Rattle.std.proofs.lemmas.Option.{get_or_from_slice_get}
use Rattle.points_in.specs.declared.point.Point.{Point}
use Rattle.net_graph.specs.declared.edge.Edge.{Edge}
use Rattle.hanan_grid.specs.declared.name.EdgeName.{EdgeName}
use Rattle.hanan_grid.specs.Grid.{xs_of, ys_of, vertex_number, hanan_grid_of}
use Rattle.hanan_grid.specs.Names.{crossing, point_of_vertex, name_between, no_edge, name_of_edge}
use Rattle.hanan_grid.specs.NamesLaws.{point_of_vertex-at}

-- the crossing of a vertex's column and row is its point
pub point_from_place : (xs ys : List ℤ) (v i j : ℕ) (p : Point) → i < length xs → vertex_number (length xs) i j ≡ v → p ≡ crossing xs ys i j → p ≡ point_of_vertex xs ys v
point_from_place xs ys v i j p column number at =
    at ∙ (sym (point_of_vertex-at xs ys i j column) ∙ ap (point_of_vertex xs ys) number)

-- the name between the points of an edge's ends is its name
pub name_from_ends : (ps : List Point) (e : ℕ) (ends : Edge) (p q : Point) (name : EdgeName) → slice_get (hanan_grid_of ps).edges e ≡ Some ends → p ≡ point_of_vertex (xs_of ps) (ys_of ps) ends.a → q ≡ point_of_vertex (xs_of ps) (ys_of ps) ends.b → name ≡ name_between p q → name ≡ name_of_edge ps e
name_from_ends ps e ends p q name edge from to between =
    let is = get_or_from_slice_get (hanan_grid_of ps).edges e ends no_edge edge in
    rw (is, between, from, to) refl
