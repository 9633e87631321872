-- Laws of Hanan's grid: how many edges it has, which edge stands at which number, and that it is a graph.
use Rattle.std.specs.Prelude.{ℕ, ◌+◌, ◌-◌, ◌*◌, ◌≡◌, ◌≤◌, ◌<◌, ℤ, List, ◌++◌, length, map, slice_get, Some, All}
use Rattle.std.specs.Prelude.{Contains}
use Rattle.std.proofs.Common.{arith, get_or, ap, subst, ◌∙◌}
use Rattle.std.proofs.lemmas.List.{length-append, length-map, get_or_append_left, get_or-append-add, get_or-map}
use Rattle.std.proofs.lemmas.List.Elements.{All-append, All-map, Contains-get_or}
use Rattle.std.proofs.lemmas.Nat.{mul-le, mul-add-lt}
use Rattle.std.proofs.lemmas.Option.{slice_get-get_or}
use Rattle.points_in.specs.declared.point.Point.{Point}
use Rattle.net_graph.specs.declared.edge.Edge.{Edge}
use Rattle.net_graph.specs.Graph.{HasEndsBelow}
use Rattle.hanan_grid.specs.Lines.{place_of}
use Rattle.hanan_grid.specs.Grid.{xs_of, ys_of, vertex_number, horizontal, vertical, horizontals, verticals}
use Rattle.hanan_grid.specs.Grid.{vertex_of, hanan_grid_of}
use Rattle.hanan_grid.specs.LinesLaws.{IsRising, IsRising-ascending, Contains-ascending, place_of-below}
use Rattle.hanan_grid.specs.LinesLaws.{gap_after-positive, length-ascending-le, length-ascending-positive}
use Rattle.hanan_grid.specs.Tables.{length-table_from, get_or-table_from, All-table_from}

-- ---- how many edges there are

-- a row has one horizontal edge less than crossings
pub length-horizontals : (xs ys : List ℤ) → length (horizontals xs ys) ≡ length ys * (length xs - 1)
length-horizontals xs ys = length-table_from (horizontal xs) 0 (length ys) (length xs - 1)

-- each row but the last has a vertical edge at each crossing
pub length-verticals : (xs ys : List ℤ) → length (verticals xs ys) ≡ (length ys - 1) * length xs
length-verticals xs ys = length-table_from (vertical (length xs) ys) 0 (length ys - 1) (length xs)

-- the horizontal edges and then the vertical ones
abbrev pub edges_of_lines : List ℤ → List ℤ → List Edge
edges_of_lines xs ys = horizontals xs ys ++ verticals xs ys

-- there are no more edges
pub length-edges_of_lines : (xs ys : List ℤ)
    → length (edges_of_lines xs ys) ≡ length ys * (length xs - 1) + (length ys - 1) * length xs
length-edges_of_lines xs ys =
    omega (arith, length-append (horizontals xs ys) (verticals xs ys), length-horizontals xs ys, length-verticals xs ys)

-- ---- which edge stands at which number

-- a horizontal edge's number: by row and then by column
abbrev pub horizontal_number : List ℤ → ℕ → ℕ → ℕ
horizontal_number xs j i = j * (length xs - 1) + i

-- a vertical edge's number: behind all horizontal ones, by row and then by column
abbrev pub vertical_number : List ℤ → List ℤ → ℕ → ℕ → ℕ
vertical_number xs ys j i = length ys * (length xs - 1) + j * length xs + i

-- a horizontal edge's number is one
pub horizontal_number-below : (xs ys : List ℤ) (j i : ℕ) → j < length ys → i + 1 < length xs
    → horizontal_number xs j i < length (edges_of_lines xs ys)
horizontal_number-below xs ys j i row column =
    omega (arith, length-edges_of_lines xs ys, mul-add-lt j (length xs - 1) i (length ys) row (omega arith))

-- a vertical edge's number is one
pub vertical_number-below : (xs ys : List ℤ) (j i : ℕ) → j + 1 < length ys → i < length xs
    → vertical_number xs ys j i < length (edges_of_lines xs ys)
vertical_number-below xs ys j i row column =
    omega (arith, length-edges_of_lines xs ys, mul-add-lt j (length xs) i (length ys - 1) (omega arith) column)

-- the horizontal edge of row j and column i stands at its number
pub get_or-horizontal : (xs ys : List ℤ) (j i : ℕ) (d : Edge) → j < length ys → i + 1 < length xs
    → get_or (edges_of_lines xs ys) (horizontal_number xs j i) d ≡ horizontal xs j i
get_or-horizontal xs ys j i d row column =
    let inside = mul-add-lt j (length xs - 1) i (length ys) row (omega arith) in
    let here = get_or-table_from (horizontal xs) 0 (length ys) (length xs - 1) j i d row (omega arith) in
    let zeroth : 0 + j ≡ j = omega arith in
    get_or_append_left (horizontals xs ys) (verticals xs ys) d (horizontal_number xs j i)
    (omega (arith, length-horizontals xs ys)) ∙ (rw zeroth at here)

-- the vertical edge of row j and column i stands at its number
pub get_or-vertical : (xs ys : List ℤ) (j i : ℕ) (d : Edge) → j + 1 < length ys → i < length xs
    → get_or (edges_of_lines xs ys) (vertical_number xs ys j i) d ≡ vertical (length xs) ys j i
get_or-vertical xs ys j i d row column =
    let at : vertical_number xs ys j i ≡ length (horizontals xs ys) + (j * length xs + i) =
    omega (arith, length-horizontals xs ys) in
    let here = get_or-table_from (vertical (length xs) ys) 0 (length ys - 1) (length xs) j i d (omega arith) column in
    let zeroth : 0 + j ≡ j = omega arith in
    rw at (get_or-append-add (horizontals xs ys) (verticals xs ys) (j * length xs + i) d ∙ (rw zeroth at here))

-- the same as the list's answer
pub slice_get-horizontal : (xs ys : List ℤ) (j i : ℕ) → j < length ys → i + 1 < length xs
    → slice_get (edges_of_lines xs ys) (horizontal_number xs j i) ≡ Some (horizontal xs j i)
slice_get-horizontal xs ys j i row column =
    slice_get-get_or (edges_of_lines xs ys) (horizontal_number xs j i) (horizontal xs j i)
    (horizontal_number-below xs ys j i row column)
    ∙ ap Some (get_or-horizontal xs ys j i (horizontal xs j i) row column)

-- and for a vertical edge
pub slice_get-vertical : (xs ys : List ℤ) (j i : ℕ) → j + 1 < length ys → i < length xs
    → slice_get (edges_of_lines xs ys) (vertical_number xs ys j i) ≡ Some (vertical (length xs) ys j i)
slice_get-vertical xs ys j i row column =
    slice_get-get_or (edges_of_lines xs ys) (vertical_number xs ys j i) (vertical (length xs) ys j i)
    (vertical_number-below xs ys j i row column)
    ∙ ap Some (get_or-vertical xs ys j i (vertical (length xs) ys j i) row column)

-- ---- a graph

-- a crossing's number is below the number of crossings
pub vertex_number-below : (nx ny i j : ℕ) → i < nx → j < ny → vertex_number nx i j < nx * ny
vertex_number-below nx ny i j column row = mul-add-lt j nx i ny row column

-- the ends of the edges are crossings
pub ends_below : (xs ys : List ℤ) → All (HasEndsBelow (length xs * length ys)) (edges_of_lines xs ys)
ends_below xs ys = All-append (HasEndsBelow (length xs * length ys)) (horizontals xs ys) (verticals xs ys)
    (All-table_from (HasEndsBelow (length xs * length ys)) (horizontal xs) 0 (length ys) (length xs - 1)
    (λ j i row column. record {
      a = vertex_number-below (length xs) (length ys) i j (omega arith) (omega arith);
      b = vertex_number-below (length xs) (length ys) (i + 1) j (omega arith) (omega arith);
    }))
    (All-table_from (HasEndsBelow (length xs * length ys)) (vertical (length xs) ys) 0 (length ys - 1) (length xs)
    (λ j i row column. record {
      a = vertex_number-below (length xs) (length ys) i j (omega arith) (omega arith);
      b = vertex_number-below (length xs) (length ys) i (j + 1) (omega arith) (omega arith);
    }))

-- the edges of rising lines have a length
pub lengths_positive : (xs ys : List ℤ) → IsRising xs → IsRising ys → All (λ e. 0 < e.length) (edges_of_lines xs ys)
lengths_positive xs ys rises rises' = All-append (λ e. 0 < e.length) (horizontals xs ys) (verticals xs ys)
    (All-table_from (λ e. 0 < e.length) (horizontal xs) 0 (length ys) (length xs - 1)
    (λ j i row column. gap_after-positive xs i (omega arith) rises))
    (All-table_from (λ e. 0 < e.length) (vertical (length xs) ys) 0 (length ys - 1) (length xs)
    (λ j i row column. gap_after-positive ys j (omega arith) rises'))

-- at most 50 lines each way make at most 2500 crossings
pub few_crossings : (nx ny : ℕ) → nx ≤ 50 → ny ≤ 50 → nx * ny ≤ 2500
few_crossings nx ny few few' = omega (arith, mul-le nx ny 50 50 few few')

-- and at most 4900 edges
pub few_edges : (nx ny : ℕ) → nx ≤ 50 → ny ≤ 50 → ny * (nx - 1) + (ny - 1) * nx ≤ 4900
few_edges nx ny few few' =
    omega (arith, mul-le ny (nx - 1) 50 49 few' (omega arith), mul-le (ny - 1) nx 49 50 (omega arith) few)

-- the x of each point is a column's
pub Contains-xs_of : (ps : List Point) (k : ℕ) (d : Point) → k < length ps → Contains (xs_of ps) (get_or ps k d).x
Contains-xs_of ps k d inside = Contains-ascending (map (λ p. p.x) ps) (get_or ps k d).x
    (subst (λ z. Contains (map (λ p. p.x) ps) z) (get_or-map (λ p. p.x) ps k d d.x inside)
    (Contains-get_or (map (λ p. p.x) ps) k d.x (omega (arith, length-map ps (λ p. p.x)))))

-- the y of each point is a row's
pub Contains-ys_of : (ps : List Point) (k : ℕ) (d : Point) → k < length ps → Contains (ys_of ps) (get_or ps k d).y
Contains-ys_of ps k d inside = Contains-ascending (map (λ p. p.y) ps) (get_or ps k d).y
    (subst (λ z. Contains (map (λ p. p.y) ps) z) (get_or-map (λ p. p.y) ps k d d.y inside)
    (Contains-get_or (map (λ p. p.y) ps) k d.y (omega (arith, length-map ps (λ p. p.y)))))

-- the lines of points rise
pub IsRising-xs_of : (ps : List Point) → IsRising (xs_of ps)
IsRising-xs_of ps = IsRising-ascending (map (λ p. p.x) ps)

pub IsRising-ys_of : (ps : List Point) → IsRising (ys_of ps)
IsRising-ys_of ps = IsRising-ascending (map (λ p. p.y) ps)

-- there are at most as many lines each way as points
pub length-xs_of-le : (ps : List Point) → length (xs_of ps) ≤ length ps
length-xs_of-le ps = omega (arith, length-ascending-le (map (λ p. p.x) ps), length-map ps (λ p. p.x))

pub length-ys_of-le : (ps : List Point) → length (ys_of ps) ≤ length ps
length-ys_of-le ps = omega (arith, length-ascending-le (map (λ p. p.y) ps), length-map ps (λ p. p.y))

-- and at least one each way, where there is a point
pub length-xs_of-positive : (ps : List Point) → 0 < length ps → 0 < length (xs_of ps)
length-xs_of-positive ps some = length-ascending-positive (map (λ p. p.x) ps) (omega (arith, length-map ps (λ p. p.x)))

pub length-ys_of-positive : (ps : List Point) → 0 < length ps → 0 < length (ys_of ps)
length-ys_of-positive ps some = length-ascending-positive (map (λ p. p.y) ps) (omega (arith, length-map ps (λ p. p.y)))

-- each terminal's vertex is one
pub vertex_of-below : (ps : List Point) (k : ℕ) (d : Point) → k < length ps
    → vertex_of (xs_of ps) (ys_of ps) (get_or ps k d) < length (xs_of ps) * length (ys_of ps)
vertex_of-below ps k d inside =
    let p = get_or ps k d in
    vertex_number-below (length (xs_of ps)) (length (ys_of ps)) (place_of p.x (xs_of ps)) (place_of p.y (ys_of ps))
    (place_of-below p.x (xs_of ps) (Contains-xs_of ps k d inside) (IsRising-xs_of ps))
    (place_of-below p.y (ys_of ps) (Contains-ys_of ps k d inside) (IsRising-ys_of ps))

-- the terminals' vertices are vertices
pub terminals_below : (ps : List Point)
    → All (λ t. t < length (xs_of ps) * length (ys_of ps)) (hanan_grid_of ps).terminals
terminals_below ps =
    All-map (λ t. t < length (xs_of ps) * length (ys_of ps)) (vertex_of (xs_of ps) (ys_of ps)) ps
    (λ k d inside. vertex_of-below ps k d inside)

-- the grid of at most 50 points has at most 2500 crossings
pub few_crossings_of : (ps : List Point) → length ps ≤ 50 → (hanan_grid_of ps).vertices ≤ 2500
few_crossings_of ps few = grind (arith, few_crossings, length-xs_of-le ps, length-ys_of-le ps)
