-- What is found of a grid by a point or by a name.
use Rattle.std.proofs.Common.{ℕ, ◌+◌, ◌≡◌, ◌<◌, ◌≤◌, ℤ, List, length, get_or, Option, Some, None, refl, ap, ◌∙◌, sym, subst, arith, ◌⊎◌, inl, inr}
use Rattle.std.specs.Prelude.{Contains, slice_get, IfNone}
use Rattle.std.proofs.lemmas.Option.{get_or_from_slice_get}
use Rattle.points_in.specs.declared.point.Point.{Point}
use Rattle.net_graph.specs.Graph.{total_of}
use Rattle.hanan_grid.specs.declared.place.Place.{Place}
use Rattle.hanan_grid.specs.Lines.{line_at, place_of}
use Rattle.hanan_grid.specs.Grid.{xs_of, ys_of, vertex_number, vertex_of, horizontal, vertical, hanan_grid_of}
use Rattle.hanan_grid.specs.Names.{IsCrossing, crossing, point_of_vertex, name_between, no_edge, name_of_edge, name_of_crossings}
use Rattle.hanan_grid.specs.Neighbours.{IsRightOf, IsAbove}
use Rattle.hanan_grid.specs.Distance.{distance_between, origin, distance_of}
use Rattle.hanan_grid.specs.LinesLaws.{IsRising, place_of-below, line_at-place_of, place_of-line_at, same_place}
use Rattle.hanan_grid.specs.GridLaws.{ends_below, Contains-xs_of, Contains-ys_of, IsRising-xs_of, IsRising-ys_of}
use Rattle.hanan_grid.specs.NamesLaws.{point_of_vertex-at, IsCrossing-point_of_vertex, edge_cases, name_of-horizontal, name_of-vertical, same_between, IsHorizontal, IsVertical}
use Rattle.hanan_grid.proofs.lemmas.Spans.{distance_between-le}

-- what holds anyway holds where there is nothing
pub IfNone_always : {X : Type 0} (r : Option X) (Q : Type 0) → Q → IfNone r Q
IfNone_always None Q q = q
IfNone_always (Some x) Q q = tt

-- what follows of a fact for the case of nothing
pub IfNone_then : {X : Type 0} (r : Option X) (P Q : Type 0) → IfNone r P → (P → Q) → IfNone r Q
IfNone_then None P Q p f = f p
IfNone_then (Some x) P Q p f = tt

-- a value that doesn't stand at its place is no line
pub not_found : (lines : List ℤ) (z : ℤ) → IsRising lines → (place_of z lines < length lines → line_at lines (place_of z lines) ≡ z → ⊥) → Contains lines z → ⊥
not_found lines z rises apart member = apart (place_of-below z lines member rises) (line_at-place_of z lines member rises)

-- the vertex of a crossing's column and row is the crossing's
pub vertex_of-crossing : (xs ys : List ℤ) (i j : ℕ) (p : Point) → IsRising xs → IsRising ys → i < length xs → j < length ys → crossing xs ys i j ≡ p → vertex_number (length xs) i j ≡ vertex_of xs ys p
vertex_of-crossing xs ys i j p rises rises' column row at =
    rw (← at) (rw (place_of-line_at xs i column rises, place_of-line_at ys j row rises') refl)

-- the edge to the right has the name of its crossings
pub name_from_horizontal : (ps : List Point) (e : ℕ) (p q : Place) → p.column + 1 < length (xs_of ps) → slice_get (hanan_grid_of ps).edges e ≡ Some (horizontal (xs_of ps) p.row p.column) → IsRightOf q p → name_of_edge ps e ≡ name_of_crossings ps p q
name_from_horizontal ps e p q column edge right =
    let xs = xs_of ps in
    let ys = ys_of ps in
    let is = get_or_from_slice_get (hanan_grid_of ps).edges e (horizontal xs p.row p.column) no_edge edge in
    let from = point_of_vertex-at xs ys p.column p.row (omega arith) in
    let to = point_of_vertex-at xs ys (p.column + 1) p.row column in
    rw (is, right.column, right.row) (same_between (point_of_vertex xs ys (vertex_number (length xs) p.column p.row)) (crossing xs ys p.column p.row) (point_of_vertex xs ys (vertex_number (length xs) (p.column + 1) p.row)) (crossing xs ys (p.column + 1) p.row) from to)

-- the edge upwards has the name of its crossings
pub name_from_vertical : (ps : List Point) (e : ℕ) (p q : Place) → p.column < length (xs_of ps) → slice_get (hanan_grid_of ps).edges e ≡ Some (vertical (length (xs_of ps)) (ys_of ps) p.row p.column) → IsAbove q p → name_of_edge ps e ≡ name_of_crossings ps p q
name_from_vertical ps e p q column edge above =
    let xs = xs_of ps in
    let ys = ys_of ps in
    let is = get_or_from_slice_get (hanan_grid_of ps).edges e (vertical (length xs) ys p.row p.column) no_edge edge in
    let from = point_of_vertex-at xs ys p.column p.row column in
    let to = point_of_vertex-at xs ys p.column (p.row + 1) column in
    rw (is, above.column, above.row) (same_between (point_of_vertex xs ys (vertex_number (length xs) p.column p.row)) (crossing xs ys p.column p.row) (point_of_vertex xs ys (vertex_number (length xs) p.column (p.row + 1))) (crossing xs ys p.column (p.row + 1)) from to)

-- both crossings are in the grid
pub record AreInside (ps : List Point) (p q : Place) : Type 0 where
  pub from_column : p.column < length (xs_of ps)
  pub from_row : p.row < length (ys_of ps)
  pub to_column : q.column < length (xs_of ps)
  pub to_row : q.row < length (ys_of ps)

-- the crossings of a horizontal edge stand side by side
right_by_edge : (ps : List Point) (e j i : ℕ) (p q : Place) → AreInside ps p q → IsHorizontal (xs_of ps) (ys_of ps) e j i → name_between (crossing (xs_of ps) (ys_of ps) i j) (crossing (xs_of ps) (ys_of ps) (i + 1) j) ≡ name_of_crossings ps p q → IsRightOf q p
right_by_edge ps e j i p q inside is same = grind (arith, same_place, IsRising-xs_of ps, IsRising-ys_of ps)

-- the crossings of a vertical edge stand on each other
above_by_edge : (ps : List Point) (e j i : ℕ) (p q : Place) → AreInside ps p q → IsVertical (xs_of ps) (ys_of ps) e j i → name_between (crossing (xs_of ps) (ys_of ps) i j) (crossing (xs_of ps) (ys_of ps) i (j + 1)) ≡ name_of_crossings ps p q → IsAbove q p
above_by_edge ps e j i p q inside is same = grind (arith, same_place, IsRising-xs_of ps, IsRising-ys_of ps)

-- two crossings that an edge joins stand beside each other
pub beside_by_edge : (ps : List Point) (e : ℕ) (p q : Place) → AreInside ps p q → e < length (hanan_grid_of ps).edges → name_of_edge ps e ≡ name_of_crossings ps p q → IsRightOf q p ⊎ IsAbove q p
beside_by_edge ps e p q inside below same = elim (edge_cases (xs_of ps) (ys_of ps) e below) [
  | inl (j, i, is) ↦ inl (right_by_edge ps e j i p q inside is (sym (name_of-horizontal (xs_of ps) (ys_of ps) e j i is) ∙ same))
  | inr (j, i, is) ↦ inr (above_by_edge ps e j i p q inside is (sym (name_of-vertical (xs_of ps) (ys_of ps) e j i is) ∙ same))
]

-- the points of an edge's name are crossings
pub crossings_of_name : (ps : List Point) (e : ℕ) (p q : Point) → e < length (hanan_grid_of ps).edges → name_of_edge ps e ≡ name_between p q → IsCrossing (xs_of ps) (ys_of ps) p × IsCrossing (xs_of ps) (ys_of ps) q
crossings_of_name ps e p q below same =
    let xs = xs_of ps in
    let ys = ys_of ps in
    let ends = ends_below xs ys e no_edge below in
    let edge = get_or (hanan_grid_of ps).edges e no_edge in
    let from = IsCrossing-point_of_vertex xs ys edge.a ends.a in
    let to = IsCrossing-point_of_vertex xs ys edge.b ends.b in (
      record { x = subst (λ z. Contains xs z) (ap (λ n. n.x1) same) from.x; y = subst (λ z. Contains ys z) (ap (λ n. n.y1) same) from.y },
      record { x = subst (λ z. Contains xs z) (ap (λ n. n.x2) same) to.x; y = subst (λ z. Contains ys z) (ap (λ n. n.y2) same) to.y },
    )

-- two terminals are at most the sum of all edges apart
pub distance_of-le : (ps : List Point) (i j : ℕ) → i < length ps → j < length ps → distance_of ps i j ≤ total_of (hanan_grid_of ps)
distance_of-le ps i j first second = distance_between-le ps (get_or ps i origin) (get_or ps j origin)
    (record { x = Contains-xs_of ps i origin first; y = Contains-ys_of ps i origin first })
    (record { x = Contains-xs_of ps j origin second; y = Contains-ys_of ps j origin second })

-- the distance of two points of a list is that of their places
pub distance_from_points : (ps : List Point) (i j : ℕ) (p q : Point) → slice_get ps i ≡ Some p → slice_get ps j ≡ Some q → distance_between p q ≡ distance_of ps i j
distance_from_points ps i j p q first second =
    rw (get_or_from_slice_get ps i p origin first, get_or_from_slice_get ps j q origin second) refl

-- the same of the points that stand there
pub terminals_apart_le : (ps : List Point) (i j : ℕ) (p q : Point) → i < length ps → j < length ps → slice_get ps i ≡ Some p → slice_get ps j ≡ Some q → distance_between p q ≤ total_of (hanan_grid_of ps)
terminals_apart_le ps i j p q inside inside' first second =
    omega (arith, distance_from_points ps i j p q first second, distance_of-le ps i j inside inside')
