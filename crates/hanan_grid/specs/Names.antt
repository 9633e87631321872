-- The points of a grid's vertices, and the names of its edges.
use Rattle.std.specs.Prelude.{ℕ, ◌<◌, ◌≢◌, ◌/◌, ◌%◌, ℤ, List, length, Contains, slice_index_or}
use Rattle.points_in.specs.declared.point.Point.{Point}
use Rattle.net_graph.specs.declared.edge.Edge.{Edge}
use Rattle.hanan_grid.specs.declared.name.EdgeName.{EdgeName}
use Rattle.hanan_grid.specs.declared.place.Place.{Place}
use Rattle.hanan_grid.specs.Lines.{line_at}
use Rattle.hanan_grid.specs.Grid.{xs_of, ys_of, hanan_grid_of}

-- both coordinates of the point are lines
pub record IsCrossing (xs ys : List ℤ) (p : Point) : Type 0 where
  pub x : Contains xs p.x
  pub y : Contains ys p.y

-- the crossing of a column and a row
abbrev pub crossing : List ℤ → List ℤ → ℕ → ℕ → Point
crossing xs ys i j = record { x = line_at xs i; y = line_at ys j }

-- the point of a vertex: where its column crosses its row
abbrev pub point_of_vertex : List ℤ → List ℤ → ℕ → Point
point_of_vertex xs ys v = record { x = line_at xs (v % length xs); y = line_at ys (v / length xs) }

-- the name of an edge between two points
abbrev pub name_between : Point → Point → EdgeName
name_between p q = record { x1 = p.x; y1 = p.y; x2 = q.x; y2 = q.y }

-- the name of an edge of the lines
abbrev pub name_of : List ℤ → List ℤ → Edge → EdgeName
name_of xs ys e = name_between (point_of_vertex xs ys e.a) (point_of_vertex xs ys e.b)

-- what stands for an edge where there is none
abbrev pub no_edge : Edge
no_edge = record { a = 0; b = 0; length = 0 }

-- the name of the grid's edge of a number
abbrev pub name_of_edge : List Point → ℕ → EdgeName
name_of_edge ps e = name_of (xs_of ps) (ys_of ps) (slice_index_or (hanan_grid_of ps).edges e no_edge)

-- the name that an edge between two crossings would have
abbrev pub name_of_crossings : List Point → Place → Place → EdgeName
name_of_crossings ps p q =
    name_between (crossing (xs_of ps) (ys_of ps) p.column p.row) (crossing (xs_of ps) (ys_of ps) q.column q.row)

-- no edge of the grid has this name
abbrev pub NamesNoEdge : List Point → EdgeName → Type 0
NamesNoEdge ps name = (e : ℕ) → e < length (hanan_grid_of ps).edges → name_of_edge ps e ≢ name
