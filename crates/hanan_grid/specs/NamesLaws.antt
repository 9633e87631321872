-- Laws of points and names: vertices and their points, and edges and their names, answer to each other.
use Rattle.std.specs.Prelude.{ℕ, ◌+◌, ◌-◌, ◌*◌, ◌/◌, ◌%◌, ◌≡◌, ◌<◌, ℤ, List, length, slice_index_or, refl, ◌⊎◌}
use Rattle.std.proofs.Common.{arith, ap, inl, inr, ◌∙◌, sym}
use Rattle.std.proofs.lemmas.Bool.{cases_lt}
use Rattle.std.proofs.lemmas.Nat.{div-mul-add, mod-mul-add, div-add-mod', div_below, mod_below, mul-add-lt}
use Rattle.points_in.specs.declared.point.Point.{Point}
use Rattle.hanan_grid.specs.Lines.{place_of}
use Rattle.hanan_grid.specs.Grid.{xs_of, ys_of, vertex_number, vertex_of, hanan_grid_of}
use Rattle.hanan_grid.specs.LinesLaws.{IsRising, place_of-below, line_at-place_of, place_of-line_at, Contains-line_at}
use Rattle.hanan_grid.specs.LinesLaws.{same_place}
use Rattle.hanan_grid.specs.GridLaws.{edges_of_lines, horizontal_number, vertical_number, length-edges_of_lines}
use Rattle.hanan_grid.specs.GridLaws.{get_or-horizontal, get_or-vertical, IsRising-xs_of, IsRising-ys_of}
use Rattle.hanan_grid.specs.Names.{IsCrossing, crossing, point_of_vertex, name_between, name_of, no_edge, name_of_edge}

-- ---- vertices and points

-- the point of the vertex of column i and row j is their crossing
pub point_of_vertex-at : (xs ys : List ℤ) (i j : ℕ) → i < length xs
    → point_of_vertex xs ys (vertex_number (length xs) i j) ≡ crossing xs ys i j
point_of_vertex-at xs ys i j column = rw (mod-mul-add j (length xs) i column, div-mul-add j (length xs) i column) refl

-- a vertex is that of its column and row
pub vertex_number-parts : (nx v : ℕ) → vertex_number nx (v % nx) (v / nx) ≡ v
vertex_number-parts nx v = div-add-mod' v nx

-- the column and the row of a vertex are within the grid
pub column_of-below : (nx ny v : ℕ) → v < nx * ny → v % nx < nx
column_of-below nx ny v inside = mod_below v nx (grind arith)

pub row_of-below : (nx ny v : ℕ) → v < nx * ny → v / nx < ny
row_of-below nx ny v inside = div_below v nx ny (grind arith) (omega arith)

-- the point of a vertex is a crossing
pub IsCrossing-point_of_vertex : (xs ys : List ℤ) (v : ℕ) → v < length xs * length ys
    → IsCrossing xs ys (point_of_vertex xs ys v)
IsCrossing-point_of_vertex xs ys v inside =
    grind (
      arith,
      Contains-line_at xs (v % length xs) (column_of-below (length xs) (length ys) v inside),
      Contains-line_at ys (v / length xs) (row_of-below (length xs) (length ys) v inside),
    )

-- the vertex of a vertex's point is that vertex
pub vertex_of-point_of_vertex : (xs ys : List ℤ) (v : ℕ) → IsRising xs → IsRising ys → v < length xs * length ys
    → vertex_of xs ys (point_of_vertex xs ys v) ≡ v
vertex_of-point_of_vertex xs ys v rises rises' inside =
    grind (
      arith,
      place_of-line_at xs (v % length xs) (column_of-below (length xs) (length ys) v inside) rises,
      place_of-line_at ys (v / length xs) (row_of-below (length xs) (length ys) v inside) rises',
      vertex_number-parts (length xs) v,
    )

-- the vertex of a crossing is one
pub vertex_of-crossing-below : (xs ys : List ℤ) (p : Point) → IsRising xs → IsRising ys → IsCrossing xs ys p
    → vertex_of xs ys p < length xs * length ys
vertex_of-crossing-below xs ys p rises rises' at =
    grind (
      arith,
      mul-add-lt (place_of p.y ys) (length xs) (place_of p.x xs) (length ys) (place_of-below p.y ys at.y rises')
          (place_of-below p.x xs at.x rises),
    )

-- the point of a crossing's vertex is that crossing
pub point_of_vertex-vertex_of : (xs ys : List ℤ) (p : Point) → IsRising xs → IsRising ys → IsCrossing xs ys p
    → point_of_vertex xs ys (vertex_of xs ys p) ≡ p
point_of_vertex-vertex_of xs ys p rises rises' at =
    grind (
      arith,
      point_of_vertex-at xs ys (place_of p.x xs) (place_of p.y ys) (place_of-below p.x xs at.x rises),
      line_at-place_of p.x xs at.x rises,
      line_at-place_of p.y ys at.y rises',
    )

-- ---- edges and names

-- a number is that of a horizontal edge
pub record IsHorizontal (xs ys : List ℤ) (e j i : ℕ) : Type 0 where
  pub row : j < length ys
  pub column : i + 1 < length xs
  pub number : e ≡ horizontal_number xs j i

-- a number is that of a vertical edge
pub record IsVertical (xs ys : List ℤ) (e j i : ℕ) : Type 0 where
  pub row : j + 1 < length ys
  pub column : i < length xs
  pub number : e ≡ vertical_number xs ys j i

-- a number that is as far behind them as this one is a vertical edge's
vertical_from : (xs ys : List ℤ) (e k : ℕ) → e ≡ length ys * (length xs - 1) + k → k < (length ys - 1) * length xs
    → IsVertical xs ys e (k / length xs) (k % length xs)
vertical_from xs ys e k behind inside = grind (arith, row_of-below, column_of-below, vertex_number-parts (length xs) k)

-- an edge is horizontal or vertical
pub edge_cases : (xs ys : List ℤ) (e : ℕ) → e < length (edges_of_lines xs ys)
    → ((j : ℕ) × (i : ℕ) × IsHorizontal xs ys e j i) ⊎ ((j : ℕ) × (i : ℕ) × IsVertical xs ys e j i)
edge_cases xs ys e inside =
    let across = length ys * (length xs - 1) in
    elim (cases_lt e across) [
      | inl before ↦ inl (
        e / (length xs - 1),
        e % (length xs - 1),
        (grind (
          arith,
          column_of-below,
          row_of-below,
          vertex_number-parts (length xs - 1) e,
        )),
      )
      | inr behind ↦ let k = e - across in
          inr (
            k / length xs,
            k % length xs,
            vertical_from xs ys e k (omega arith)
                (omega (arith, length-edges_of_lines xs ys)),
          )
    ]

-- the names between points that are one are one
pub same_between : (p p' q q' : Point) → p ≡ p' → q ≡ q' → name_between p q ≡ name_between p' q'
same_between p p' q q' from to = cc

-- a horizontal edge is named by its crossings
pub name_of-horizontal : (xs ys : List ℤ) (e j i : ℕ) → IsHorizontal xs ys e j i
    → name_of xs ys (slice_index_or (edges_of_lines xs ys) e no_edge)
    ≡ name_between (crossing xs ys i j) (crossing xs ys (i + 1) j)
name_of-horizontal xs ys e j i is =
    grind (
      arith,
      point_of_vertex-at,
      point_of_vertex-at xs ys (i + 1) j is.column,
      get_or-horizontal xs ys j i no_edge is.row is.column,
      same_between,
    )

-- a vertical edge is named by its crossings
pub name_of-vertical : (xs ys : List ℤ) (e j i : ℕ) → IsVertical xs ys e j i
    → name_of xs ys (slice_index_or (edges_of_lines xs ys) e no_edge)
    ≡ name_between (crossing xs ys i j) (crossing xs ys i (j + 1))
name_of-vertical xs ys e j i is =
    grind (
      arith,
      point_of_vertex-at xs ys i j is.column,
      point_of_vertex-at xs ys i (j + 1) is.column,
      get_or-vertical xs ys j i no_edge is.row is.column,
    )

-- two horizontal edges with one name are one
same_horizontal : (xs ys : List ℤ) (e f j i l k : ℕ) → IsRising xs → IsRising ys → IsHorizontal xs ys e j i
    → IsHorizontal xs ys f l k → name_between (crossing xs ys i j) (crossing xs ys (i + 1) j)
    ≡ name_between (crossing xs ys k l) (crossing xs ys (k + 1) l) → e ≡ f
same_horizontal xs ys e f j i l k rises rises' is is' same = grind (arith, same_place)

-- two vertical edges with one name are one
same_vertical : (xs ys : List ℤ) (e f j i l k : ℕ) → IsRising xs → IsRising ys → IsVertical xs ys e j i
    → IsVertical xs ys f l k → name_between (crossing xs ys i j) (crossing xs ys i (j + 1))
    ≡ name_between (crossing xs ys k l) (crossing xs ys k (l + 1)) → e ≡ f
same_vertical xs ys e f j i l k rises rises' is is' same = grind (arith, same_place)

-- a horizontal and a vertical edge have two names
names_apart : {P : Type 0} (xs ys : List ℤ) (e f j i l k : ℕ) → IsRising xs → IsHorizontal xs ys e j i
    → IsVertical xs ys f l k → name_between (crossing xs ys i j) (crossing xs ys (i + 1) j)
    ≡ name_between (crossing xs ys k l) (crossing xs ys k (l + 1)) → P
names_apart xs ys e f j i l k rises is is' same =
    let left = same_place xs i k (omega arith) is'.column rises (ap (λ n. n.x1) same) in
    let right = same_place xs (i + 1) k is.column is'.column rises (ap (λ n. n.x2) same) in
    absurd (omega arith)

-- two edges of rising lines with one name are one
same_edge_of_lines : (xs ys : List ℤ) (e f : ℕ) → IsRising xs → IsRising ys → e < length (edges_of_lines xs ys)
    → f < length (edges_of_lines xs ys) → name_of xs ys (slice_index_or (edges_of_lines xs ys) e no_edge)
    ≡ name_of xs ys (slice_index_or (edges_of_lines xs ys) f no_edge) → e ≡ f
same_edge_of_lines xs ys e f rises rises' inside inside' same =
    elim (edge_cases xs ys e inside) [
      | inl (j, i, is) ↦ elim (edge_cases xs ys f inside') [
        | inl (l, k, is') ↦
            same_horizontal xs ys e f j i l k rises rises' is is' (sym (name_of-horizontal xs ys e j i is)
            ∙ (same ∙ name_of-horizontal xs ys f l k is'))
        | inr (l, k, is') ↦
            names_apart xs ys e f j i l k rises is is' (sym (name_of-horizontal xs ys e j i is)
            ∙ (same ∙ name_of-vertical xs ys f l k is'))
      ]
      | inr (j, i, is) ↦ elim (edge_cases xs ys f inside') [
        | inl (l, k, is') ↦ names_apart xs ys f e l k j i rises is' is (sym (name_of-horizontal xs ys f l k is')
            ∙ (sym same ∙ name_of-vertical xs ys e j i is))
        | inr (l, k, is') ↦ same_vertical xs ys e f j i l k rises rises' is is' (sym (name_of-vertical xs ys e j i is)
            ∙ (same ∙ name_of-vertical xs ys f l k is'))
      ]
    ]

-- two edges of a grid with one name are one
pub same_edge : (ps : List Point) (e f : ℕ) → e < length (hanan_grid_of ps).edges
    → f < length (hanan_grid_of ps).edges → name_of_edge ps e ≡ name_of_edge ps f → e ≡ f
same_edge ps e f inside inside' same =
    same_edge_of_lines (xs_of ps) (ys_of ps) e f (IsRising-xs_of ps) (IsRising-ys_of ps) inside inside' same
