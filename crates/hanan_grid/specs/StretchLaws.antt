-- Laws of the stretches of a grid: which edges they have, how long they are, and where they lead.
use Rattle.std.proofs.Common.{ℕ, zero, suc, ◌≡◌, ◌+◌, ◌-◌, ◌/◌, ◌%◌, ◌<◌, ◌≤◌, min, max, ℤ, pos, ◌+ℤ◌, ◌-ℤ◌, ◌≤ℤ◌}
use Rattle.std.proofs.Common.{unsigned_abs, Bool, true, false, List, [], ◌∷◌, length, replicate, slice_get, slice_set}
use Rattle.std.proofs.Common.{Some, ◌⊎◌, refl, inl, inr, ⊎_elim, sym, ap, ◌∙◌, subst, arith}
use Rattle.std.specs.Prelude.{All, ◌↔◌}
use Rattle.std.proofs.lemmas.Bool.{cases_lt}
use Rattle.std.proofs.lemmas.Int.{ints, by_lt_z}
use Rattle.std.proofs.lemmas.List.{length-replicate}
use Rattle.std.proofs.lemmas.List.Elements.{All-contains}
use Rattle.std.proofs.lemmas.Nat.{mul-add-lt}
use Rattle.std.proofs.lemmas.Option.{slice_get_within, same_Some}
use Rattle.points_in.specs.declared.point.Point.{Point}
use Rattle.net_graph.specs.declared.edge.Edge.{Edge}
use Rattle.net_graph.specs.Adds.{Adds}
use Rattle.net_graph.specs.AddsLaws.{Adds-nothing, Adds-iff, Adds-holds}
use Rattle.net_graph.specs.JoinsLaws.{Links-back, Joins-from}
use Rattle.net_graph.specs.LengthLaws.{length_of_edges-none, length_of_edges-add, length_of_edges-within}
use Rattle.net_graph.specs.LengthLaws.{length_of_edges-union}
use Rattle.net_graph.specs.Network.{Links, Joins, length_of}
use Rattle.net_graph.specs.Search.{Leads}
use Rattle.hanan_grid.specs.Distance.{distance_between}
use Rattle.hanan_grid.specs.Grid.{xs_of, ys_of, vertex_number, vertex_of, horizontal, vertical, hanan_grid_of}
use Rattle.hanan_grid.specs.GridLaws.{horizontal_number, vertical_number, horizontal_number-below}
use Rattle.hanan_grid.specs.GridLaws.{vertical_number-below, slice_get-horizontal, slice_get-vertical, IsRising-xs_of}
use Rattle.hanan_grid.specs.GridLaws.{IsRising-ys_of}
use Rattle.hanan_grid.specs.Lines.{line_at, place_of}
use Rattle.hanan_grid.specs.LinesLaws.{IsRising, place_of-below, line_at-place_of, line_at-rises, same_place}
use Rattle.hanan_grid.specs.LinesLaws.{gap_after-is}
use Rattle.hanan_grid.specs.Names.{IsCrossing, crossing, point_of_vertex}
use Rattle.hanan_grid.specs.NamesLaws.{IsHorizontal, IsVertical, edge_cases, point_of_vertex-at, vertex_number-parts}
use Rattle.hanan_grid.specs.NamesLaws.{column_of-below, row_of-below, vertex_of-crossing-below}
use Rattle.hanan_grid.specs.NamesLaws.{point_of_vertex-vertex_of}
use Rattle.hanan_grid.specs.Runs.{IsInRow, IsInColumnBetween}
use Rattle.hanan_grid.specs.RunsLaws.{IsPassed, line_leads, IsInRowBelow, row_more, IsInColumnPart}
use Rattle.hanan_grid.specs.RunsLaws.{column_part_more}
use Rattle.hanan_grid.specs.Stretch.{IsBetween, LiesBetween, IsOnStretch, IsVertexOnStretch, IsGridStretch}

-- ---- lines between lines

-- a line that is no higher than another stands no later
place_le : (lines : List ℤ) (i j : ℕ) → i < length lines → IsRising lines →
    line_at lines i ≤ℤ line_at lines j → i ≤ j
place_le lines i j within rises lower = elim (cases_lt j i) [
  | inl before ↦ absurd (omega (arith, ints, line_at-rises lines j i before within rises))
  | inr after ↦ omega arith
]

-- .. and the other way round
line_le : (lines : List ℤ) (i j : ℕ) → j < length lines → IsRising lines → i ≤ j →
    line_at lines i ≤ℤ line_at lines j
line_le lines i j within rises no_later = elim (cases_lt i j) [
  | inl before ↦ omega (arith, ints, line_at-rises lines i j before within rises)
  | inr last ↦ let same : i ≡ j = omega arith in rw same (omega (arith, ints))
]

-- nothing but the number itself is between a number and itself
same_between : (c z : ℤ) → IsBetween c c z → z ≡ c
same_between c z between =
    ⊎_elim (λ up. omega (arith, ints, up.0, up.1)) (λ down. omega (arith, ints, down.0, down.1)) between

-- .. and that is
between_same : (c : ℤ) → IsBetween c c c
between_same c = inl (omega (arith, ints), omega (arith, ints))

-- a gap with both lines between two lines is passed on the way between these
passed_from_between : (lines : List ℤ) (a b t : ℕ) → a < length lines → b < length lines →
    t + 1 < length lines → IsRising lines →
    IsBetween (line_at lines a) (line_at lines b) (line_at lines t) →
    IsBetween (line_at lines a) (line_at lines b) (line_at lines (t + 1)) → IsPassed a b t
passed_from_between lines a b t a_in b_in t_in rises (inl low) (inl high) =
    inl (place_le lines a t a_in rises low.0, omega (arith, place_le lines (t + 1) b t_in rises high.1))
passed_from_between lines a b t a_in b_in t_in rises (inl low) (inr high) =
    absurd (omega (arith, ints, low.0, high.1, line_at-rises lines t (t + 1) (omega arith) t_in rises))
passed_from_between lines a b t a_in b_in t_in rises (inr low) (inl high) =
    absurd (omega (arith, ints, low.0, high.1, line_at-rises lines t (t + 1) (omega arith) t_in rises))
passed_from_between lines a b t a_in b_in t_in rises (inr low) (inr high) =
    inr (place_le lines b t b_in rises low.0, omega (arith, place_le lines (t + 1) a t_in rises high.1))

-- .. and the lines of a passed gap are between
between_from_passed : (lines : List ℤ) (a b t : ℕ) → a < length lines → b < length lines →
    t + 1 < length lines → IsRising lines →
    IsPassed a b t →
    IsBetween (line_at lines a) (line_at lines b) (line_at lines t)
    × IsBetween (line_at lines a) (line_at lines b) (line_at lines (t + 1))
between_from_passed lines a b t a_in b_in t_in rises (inl up) = grind (arith, line_le)
between_from_passed lines a b t a_in b_in t_in rises (inr down) = grind (arith, line_le)

-- what is passed on the way to a line between two is passed on the way between them
passed_further : (lines : List ℤ) (a b t s : ℕ) → a < length lines → b < length lines → t < length lines →
    IsRising lines →
    IsBetween (line_at lines a) (line_at lines b) (line_at lines t) → IsPassed a t s → IsPassed a b s
passed_further lines a b t s a_in b_in t_in rises (inl up) (inl p) =
    inl (p.0, omega (arith, p.1, place_le lines t b t_in rises up.1))
passed_further lines a b t s a_in b_in t_in rises (inl up) (inr p) =
    absurd (omega (arith, p.0, p.1, place_le lines a t a_in rises up.0))
passed_further lines a b t s a_in b_in t_in rises (inr down) (inl p) =
    absurd (omega (arith, p.0, p.1, place_le lines t a t_in rises down.1))
passed_further lines a b t s a_in b_in t_in rises (inr down) (inr p) =
    inr (omega (arith, p.0, place_le lines b t b_in rises down.0), p.1)

-- ---- stretches in rows and in columns

-- the stretch is in a row, between two columns
pub record IsRowStretch (ps : List Point) (p q : Point) (row a b : ℕ) : Type 0 where
  pub row_in : row < length (ys_of ps)
  pub a_in : a < length (xs_of ps)
  pub b_in : b < length (xs_of ps)
  pub from : crossing (xs_of ps) (ys_of ps) a row ≡ p
  pub to : crossing (xs_of ps) (ys_of ps) b row ≡ q

-- the stretch is in a column, between two rows
pub record IsColumnStretch (ps : List Point) (p q : Point) (column a b : ℕ) : Type 0 where
  pub column_in : column < length (xs_of ps)
  pub a_in : a < length (ys_of ps)
  pub b_in : b < length (ys_of ps)
  pub from : crossing (xs_of ps) (ys_of ps) column a ≡ p
  pub to : crossing (xs_of ps) (ys_of ps) column b ≡ q

-- a crossing is where its coordinates' lines cross
crossing-places : (ps : List Point) (p : Point) (x y : ℤ) → IsCrossing (xs_of ps) (ys_of ps) p → x ≡ p.x →
    y ≡ p.y →
    crossing (xs_of ps) (ys_of ps) (place_of x (xs_of ps)) (place_of y (ys_of ps)) ≡ p
crossing-places ps p x y at same_x same_y =
    grind (
      arith,
      line_at-place_of p.x (xs_of ps) at.x (IsRising-xs_of ps),
      line_at-place_of p.y (ys_of ps) at.y (IsRising-ys_of ps),
    )

-- crossings of one y are the ends of a stretch in a row
pub IsRowStretch-from_same : (ps : List Point) (p q : Point) → IsCrossing (xs_of ps) (ys_of ps) p →
    IsCrossing (xs_of ps) (ys_of ps) q → p.y ≡ q.y →
    IsRowStretch ps p q (place_of p.y (ys_of ps)) (place_of p.x (xs_of ps)) (place_of q.x (xs_of ps))
IsRowStretch-from_same ps p q from to same =
    grind (
      arith,
      place_of-below p.y (ys_of ps) from.y (IsRising-ys_of ps),
      place_of-below p.x (xs_of ps) from.x (IsRising-xs_of ps),
      place_of-below q.x (xs_of ps) to.x (IsRising-xs_of ps),
      crossing-places ps p p.x p.y from refl refl,
      crossing-places ps q q.x p.y to refl same,
    )

-- crossings of one x are the ends of a stretch in a column
pub IsColumnStretch-from_same : (ps : List Point) (p q : Point) → IsCrossing (xs_of ps) (ys_of ps) p →
    IsCrossing (xs_of ps) (ys_of ps) q → p.x ≡ q.x →
    IsColumnStretch ps p q (place_of p.x (xs_of ps)) (place_of p.y (ys_of ps)) (place_of q.y (ys_of ps))
IsColumnStretch-from_same ps p q from to same =
    grind (
      arith,
      place_of-below p.x (xs_of ps) from.x (IsRising-xs_of ps),
      place_of-below p.y (ys_of ps) from.y (IsRising-ys_of ps),
      place_of-below q.y (ys_of ps) to.y (IsRising-ys_of ps),
      crossing-places ps p p.x p.y from refl refl,
      crossing-places ps q p.x q.y to same refl,
    )

-- a horizontal edge's ends
horizontal_ends : (ps : List Point) (p q : Point) (e j i : ℕ) (edge : Edge) →
    IsHorizontal (xs_of ps) (ys_of ps) e j i →
    slice_get (hanan_grid_of ps).edges e ≡ Some edge →
    LiesBetween p q (point_of_vertex (xs_of ps) (ys_of ps) edge.a) →
    LiesBetween p q (point_of_vertex (xs_of ps) (ys_of ps) edge.b) →
    LiesBetween p q (crossing (xs_of ps) (ys_of ps) i j) × LiesBetween p q (crossing (xs_of ps) (ys_of ps) (i + 1) j)
horizontal_ends ps p q e j i edge h at first second =
    let xs = xs_of ps in
    let ys = ys_of ps in
    let column = h.column in
    let is : edge ≡ horizontal xs j i =
    same_Some edge (horizontal xs j i) (sym at ∙ ap (slice_get (hanan_grid_of ps).edges) h.number
    ∙ slice_get-horizontal xs ys j i h.row h.column) in (
      subst (LiesBetween p q) (ap (λ (x : Edge). point_of_vertex xs ys x.a) is
          ∙ point_of_vertex-at xs ys i j (omega arith)) first,
      subst (LiesBetween p q) (ap (λ (x : Edge). point_of_vertex xs ys x.b) is
          ∙ point_of_vertex-at xs ys (i + 1) j column) second,
    )

-- a vertical edge's ends
vertical_ends : (ps : List Point) (p q : Point) (e j i : ℕ) (edge : Edge) →
    IsVertical (xs_of ps) (ys_of ps) e j i →
    slice_get (hanan_grid_of ps).edges e ≡ Some edge →
    LiesBetween p q (point_of_vertex (xs_of ps) (ys_of ps) edge.a) →
    LiesBetween p q (point_of_vertex (xs_of ps) (ys_of ps) edge.b) →
    LiesBetween p q (crossing (xs_of ps) (ys_of ps) i j) × LiesBetween p q (crossing (xs_of ps) (ys_of ps) i (j + 1))
vertical_ends ps p q e j i edge v at first second =
    let xs = xs_of ps in
    let ys = ys_of ps in
    let is : edge ≡ vertical (length xs) ys j i =
    same_Some edge (vertical (length xs) ys j i) (sym at ∙ ap (slice_get (hanan_grid_of ps).edges) v.number
    ∙ slice_get-vertical xs ys j i v.row v.column) in (
      subst (LiesBetween p q) (ap (λ (x : Edge). point_of_vertex xs ys x.a) is
          ∙ point_of_vertex-at xs ys i j v.column) first,
      subst (LiesBetween p q) (ap (λ (x : Edge). point_of_vertex xs ys x.b) is
          ∙ point_of_vertex-at xs ys i (j + 1) v.column) second,
    )

-- an edge on a stretch in a row is one of the row's edges
IsInRow-from_crossings : (ps : List Point) (row a b e : ℕ) → row < length (ys_of ps) →
    a < length (xs_of ps) → b < length (xs_of ps) →
    IsOnStretch ps (crossing (xs_of ps) (ys_of ps) a row) (crossing (xs_of ps) (ys_of ps) b row) e →
    IsInRow ps row a b e
IsInRow-from_crossings ps row a b e row_in a_in b_in (edge, at, first, second) =
    let xs = xs_of ps in
    let ys = ys_of ps in
    let p = crossing xs ys a row in
    let q = crossing xs ys b row in
    elim (edge_cases xs ys e (slice_get_within (hanan_grid_of ps).edges e edge at)) [
      | inl h ↦ let ends = horizontal_ends ps p q e h.0 h.1 edge h.2 at first second in
          let same : h.0 ≡ row =
          same_place ys h.0 row h.2.row row_in (IsRising-ys_of ps)
          (same_between (line_at ys row) (line_at ys h.0) ends.0.y) in (
            h.1,
            subst (λ j. IsHorizontal xs ys e j h.1) same h.2,
            passed_from_between xs a b h.1 a_in b_in h.2.column
                (IsRising-xs_of ps) ends.0.x ends.1.x,
          )
      | inr v ↦ let ends = vertical_ends ps p q e v.0 v.1 edge v.2 at first second in
          let here = same_between (line_at ys row) (line_at ys v.0) ends.0.y in
          let there = same_between (line_at ys row) (line_at ys (v.0 + 1)) ends.1.y in
          absurd (omega (
            arith,
            ints,
            here,
            there,
            line_at-rises ys v.0 (v.0 + 1) (omega arith) v.2.row
                (IsRising-ys_of ps),
          ))
    ]

-- .. and one of the row's edges is on the stretch
IsOnStretch-in_row : (ps : List Point) (row a b e : ℕ) → a < length (xs_of ps) → b < length (xs_of ps) →
    IsInRow ps row a b e →
    IsOnStretch ps (crossing (xs_of ps) (ys_of ps) a row) (crossing (xs_of ps) (ys_of ps) b row) e
IsOnStretch-in_row ps row a b e a_in b_in (i, h, passed) =
    let xs = xs_of ps in
    let ys = ys_of ps in
    let p = crossing xs ys a row in
    let q = crossing xs ys b row in
    let column = h.column in
    let across = between_from_passed xs a b i a_in b_in column (IsRising-xs_of ps) passed in
    let first : LiesBetween p q (crossing xs ys i row) = record { x = across.0; y = between_same (line_at ys row) } in
    let second : LiesBetween p q (crossing xs ys (i + 1) row) =
    record { x = across.1; y = between_same (line_at ys row) } in (
      horizontal xs row i,
      ap (slice_get (hanan_grid_of ps).edges) h.number ∙ slice_get-horizontal xs ys row i h.row column,
      subst (LiesBetween p q) (sym (point_of_vertex-at xs ys i row (omega arith))) first,
      subst (LiesBetween p q) (sym (point_of_vertex-at xs ys (i + 1) row column)) second,
    )

-- an edge on a stretch in a column is one of the column's edges
IsInColumn-from_crossings : (ps : List Point) (column a b e : ℕ) → column < length (xs_of ps) →
    a < length (ys_of ps) → b < length (ys_of ps) →
    IsOnStretch ps (crossing (xs_of ps) (ys_of ps) column a) (crossing (xs_of ps) (ys_of ps) column b) e →
    IsInColumnBetween ps column a b e
IsInColumn-from_crossings ps column a b e column_in a_in b_in (edge, at, first, second) =
    let xs = xs_of ps in
    let ys = ys_of ps in
    let p = crossing xs ys column a in
    let q = crossing xs ys column b in
    elim (edge_cases xs ys e (slice_get_within (hanan_grid_of ps).edges e edge at)) [
      | inl h ↦ let ends = horizontal_ends ps p q e h.0 h.1 edge h.2 at first second in
          let here = same_between (line_at xs column) (line_at xs h.1) ends.0.x in
          let there = same_between (line_at xs column) (line_at xs (h.1 + 1)) ends.1.x in
          absurd (omega (
            arith,
            ints,
            here,
            there,
            line_at-rises xs h.1 (h.1 + 1) (omega arith) h.2.column
                (IsRising-xs_of ps),
          ))
      | inr v ↦ let ends = vertical_ends ps p q e v.0 v.1 edge v.2 at first second in
          let same : v.1 ≡ column =
          same_place xs v.1 column v.2.column column_in (IsRising-xs_of ps)
          (same_between (line_at xs column) (line_at xs v.1) ends.0.x) in (
            v.0,
            subst (λ i. IsVertical xs ys e v.0 i) same v.2,
            passed_from_between ys a b v.0 a_in b_in v.2.row
                (IsRising-ys_of ps) ends.0.y ends.1.y,
          )
    ]

-- .. and one of the column's edges is on the stretch
IsOnStretch-in_column : (ps : List Point) (column a b e : ℕ) → a < length (ys_of ps) → b < length (ys_of ps) →
    IsInColumnBetween ps column a b e →
    IsOnStretch ps (crossing (xs_of ps) (ys_of ps) column a) (crossing (xs_of ps) (ys_of ps) column b) e
IsOnStretch-in_column ps column a b e a_in b_in (j, v, passed) =
    let xs = xs_of ps in
    let ys = ys_of ps in
    let p = crossing xs ys column a in
    let q = crossing xs ys column b in
    let up = between_from_passed ys a b j a_in b_in v.row (IsRising-ys_of ps) passed in
    let first : LiesBetween p q (crossing xs ys column j) = record { x = between_same (line_at xs column); y = up.0 } in
    let second : LiesBetween p q (crossing xs ys column (j + 1)) =
    record { x = between_same (line_at xs column); y = up.1 } in (
      vertical (length xs) ys j column,
      ap (slice_get (hanan_grid_of ps).edges) v.number ∙ slice_get-vertical xs ys j column v.row v.column,
      subst (LiesBetween p q) (sym (point_of_vertex-at xs ys column j v.column)) first,
      subst (LiesBetween p q) (sym (point_of_vertex-at xs ys column (j + 1) v.column)) second,
    )

-- the edges of the row between the columns are those on the stretch
pub Adds-row_stretch : (ps : List Point) (p q : Point) (row a b : ℕ) (old new : List Bool) →
    IsRowStretch ps p q row a b →
    Adds (IsInRow ps row a b) old new → Adds (IsOnStretch ps p q) old new
Adds-row_stretch ps p q row a b old new is adds =
    let at = Adds-iff (IsInRow ps row a b) (IsOnStretch ps (crossing (xs_of ps) (ys_of ps) a row)
    (crossing (xs_of ps) (ys_of ps) b row)) old new
    (λ e. IsOnStretch-in_row ps row a b e is.a_in is.b_in)
    (λ e. IsInRow-from_crossings ps row a b e is.row_in is.a_in is.b_in) adds in
    subst (λ z. Adds (IsOnStretch ps p z) old new) is.to
    (subst (λ z. Adds (IsOnStretch ps z (crossing (xs_of ps) (ys_of ps) b row)) old new) is.from at)

-- the edges of the column between the rows are those on the stretch
pub Adds-column_stretch : (ps : List Point) (p q : Point) (column a b : ℕ) (old new : List Bool) →
    IsColumnStretch ps p q column a b →
    Adds (IsInColumnBetween ps column a b) old new → Adds (IsOnStretch ps p q) old new
Adds-column_stretch ps p q column a b old new is adds =
    let at = Adds-iff (IsInColumnBetween ps column a b) (IsOnStretch ps (crossing (xs_of ps) (ys_of ps) column a)
    (crossing (xs_of ps) (ys_of ps) column b)) old new
    (λ e. IsOnStretch-in_column ps column a b e is.a_in is.b_in)
    (λ e. IsInColumn-from_crossings ps column a b e is.column_in is.a_in is.b_in) adds in
    subst (λ z. Adds (IsOnStretch ps p z) old new) is.to
    (subst (λ z. Adds (IsOnStretch ps z (crossing (xs_of ps) (ys_of ps) column b)) old new) is.from at)

-- ---- how long they are

-- a number that is not in a set has its flag cleared
slice_get-absent : (set : List Bool) (n : ℕ) → n < length set → (slice_get set n ≡ Some true → ⊥) →
    slice_get set n ≡ Some false
slice_get-absent [] n within absent = absurd (omega arith)
slice_get-absent (true ∷ set) zero within absent = absurd (absent refl)
slice_get-absent (false ∷ set) zero within absent = refl
slice_get-absent (flag ∷ set) (suc n) within absent = slice_get-absent set n (omega arith) absent

-- the empty set of a grid's edges
abbrev no_edges : List Point → List Bool
no_edges ps = replicate (length (hanan_grid_of ps).edges) false

-- a set of just the edges of a row between two columns, and its length
record RowSet (ps : List Point) (row low high : ℕ) : Type 0 where
  set : List Bool
  adds : Adds (IsInRowBelow ps row low high) (no_edges ps) set
  long : line_at (xs_of ps) low +ℤ pos (length_of (hanan_grid_of ps) set) ≡ line_at (xs_of ps) high

-- there is one for each part of a row
row_set : (ps : List Point) (row low n : ℕ) → row < length (ys_of ps) → low + n < length (xs_of ps) →
    RowSet ps row low (low + n)
row_set ps row low zero row_in within =
    let edges = (hanan_grid_of ps).edges in
    let same : low ≡ low + 0 = omega arith in
    let nothing : RowSet ps row low low = record {
      set = no_edges ps;
      adds = Adds-nothing (IsInRowBelow ps row low low) (no_edges ps) (λ e is. omega (arith, is.1, is.2));
      long = omega (arith, ints, length_of_edges-none edges (length edges));
    } in
    subst (λ high. RowSet ps row low high) same nothing
row_set ps row low (suc n) row_in within =
    let xs = xs_of ps in
    let ys = ys_of ps in
    let edges = (hanan_grid_of ps).edges in
    let before = row_set ps row low n row_in (omega arith) in
    let column : low + n + 1 < length xs = omega arith in
    let e = horizontal_number xs row (low + n) in
    let inside : e < length before.set =
    omega (
      arith,
      before.adds.size,
      length-replicate (length edges) false,
      horizontal_number-below xs ys row (low + n) row_in column,
    ) in
    let is : IsHorizontal xs ys e row (low + n) = record { row = row_in; column = column; number = refl } in
    let absent : slice_get before.set e ≡ Some true → ⊥ = λ there.
    let other = Adds-holds (IsInRowBelow ps row low (low + n)) (length edges) before.set before.adds e there in
    omega (arith, other.2, other.3.number) in
    let longer = length_of_edges-add edges before.set e (horizontal xs row (low + n))
    (slice_get-absent before.set e inside absent)
    (slice_get-horizontal xs ys row (low + n) row_in column) in
    let more : RowSet ps row low (low + n + 1) = record {
      set = slice_set before.set e true;
      adds = row_more ps row low (low + n) e (no_edges ps) before.set (omega arith) inside is before.adds;
      long = omega (arith, ints, before.long, longer, gap_after-is xs (low + n) column (IsRising-xs_of ps));
    } in
    let same : low + n + 1 ≡ low + suc n = omega arith in
    subst (λ high. RowSet ps row low high) same more

-- a set of just the edges of a column between two rows, and its length
record ColumnSet (ps : List Point) (column low high : ℕ) : Type 0 where
  set : List Bool
  adds : Adds (IsInColumnPart ps column low high) (no_edges ps) set
  long : line_at (ys_of ps) low +ℤ pos (length_of (hanan_grid_of ps) set) ≡ line_at (ys_of ps) high

-- there is one for each part of a column
column_set : (ps : List Point) (column low n : ℕ) → column < length (xs_of ps) →
    low + n < length (ys_of ps) → ColumnSet ps column low (low + n)
column_set ps column low zero column_in within =
    let edges = (hanan_grid_of ps).edges in
    let same : low ≡ low + 0 = omega arith in
    let nothing : ColumnSet ps column low low = record {
      set = no_edges ps;
      adds = Adds-nothing (IsInColumnPart ps column low low) (no_edges ps) (λ e is. omega (arith, is.1, is.2));
      long = omega (arith, ints, length_of_edges-none edges (length edges));
    } in
    subst (λ high. ColumnSet ps column low high) same nothing
column_set ps column low (suc n) column_in within =
    let xs = xs_of ps in
    let ys = ys_of ps in
    let edges = (hanan_grid_of ps).edges in
    let before = column_set ps column low n column_in (omega arith) in
    let row : low + n + 1 < length ys = omega arith in
    let e = vertical_number xs ys (low + n) column in
    let inside : e < length before.set =
    omega (
      arith,
      before.adds.size,
      length-replicate (length edges) false,
      vertical_number-below xs ys (low + n) column row column_in,
    ) in
    let is : IsVertical xs ys e (low + n) column = record { row = row; column = column_in; number = refl } in
    let absent : slice_get before.set e ≡ Some true → ⊥ = λ there.
    let other = Adds-holds (IsInColumnPart ps column low (low + n)) (length edges) before.set before.adds e there in
    omega (arith, other.2, other.3.number, mul-add-lt other.0 (length xs) column (low + n) other.2 column_in) in
    let longer = length_of_edges-add edges before.set e (vertical (length xs) ys (low + n) column)
    (slice_get-absent before.set e inside absent)
    (slice_get-vertical xs ys (low + n) column row column_in) in
    let more : ColumnSet ps column low (low + n + 1) = record {
      set = slice_set before.set e true;
      adds = column_part_more ps column low (low + n) e (no_edges ps) before.set (omega arith) inside is before.adds;
      long = omega (arith, ints, before.long, longer, gap_after-is ys (low + n) row (IsRising-ys_of ps));
    } in
    let same : low + n + 1 ≡ low + suc n = omega arith in
    subst (λ high. ColumnSet ps column low high) same more

-- a set of just the edges of a stretch, whose length is the distance of the ends
pub record StretchSet (ps : List Point) (p q : Point) : Type 0 where
  pub set : List Bool
  pub adds : Adds (IsOnStretch ps p q) (no_edges ps) set
  pub long : length_of (hanan_grid_of ps) set ≡ distance_between p q

-- how far apart two lines are, where a length leads from the lower to the higher
apart_by : (lines : List ℤ) (a b n : ℕ) →
    line_at lines (min a b) +ℤ pos n ≡ line_at lines (min a b + (max a b - min a b)) →
    unsigned_abs (line_at lines a -ℤ line_at lines b) ≡ n
apart_by lines a b n long = grind (arith, cases_lt a b, ints)

-- there is one for a stretch in a row
row_stretch_set : (ps : List Point) (p q : Point) (row a b : ℕ) → IsRowStretch ps p q row a b →
    StretchSet ps p q
row_stretch_set ps p q row a b is =
    let xs = xs_of ps in
    let ys = ys_of ps in
    let part = row_set ps row (min a b) (max a b - min a b) is.row_in (omega (arith, is.a_in, is.b_in)) in
    let x : line_at xs a ≡ p.x = ap (λ (z : Point). z.x) is.from in
    let x' : line_at xs b ≡ q.x = ap (λ (z : Point). z.x) is.to in
    let y : line_at ys row ≡ p.y = ap (λ (z : Point). z.y) is.from in
    let y' : line_at ys row ≡ q.y = ap (λ (z : Point). z.y) is.to in
    let apart = apart_by xs a b (length_of (hanan_grid_of ps) part.set) part.long in
    record {
      set = part.set;
      adds = Adds-row_stretch ps p q row a b (no_edges ps) part.set is
          (grind (arith, cases_lt a b));
      long = omega (arith, ints, x, x', y, y', apart);
    }

-- .. and for one in a column
column_stretch_set : (ps : List Point) (p q : Point) (column a b : ℕ) → IsColumnStretch ps p q column a b →
    StretchSet ps p q
column_stretch_set ps p q column a b is =
    let xs = xs_of ps in
    let ys = ys_of ps in
    let part = column_set ps column (min a b) (max a b - min a b) is.column_in (omega (arith, is.a_in, is.b_in)) in
    let x : line_at xs column ≡ p.x = ap (λ (z : Point). z.x) is.from in
    let x' : line_at xs column ≡ q.x = ap (λ (z : Point). z.x) is.to in
    let y : line_at ys a ≡ p.y = ap (λ (z : Point). z.y) is.from in
    let y' : line_at ys b ≡ q.y = ap (λ (z : Point). z.y) is.to in
    let apart = apart_by ys a b (length_of (hanan_grid_of ps) part.set) part.long in
    record {
      set = part.set;
      adds = Adds-column_stretch ps p q column a b (no_edges ps) part.set is
          (grind (arith, cases_lt a b));
      long = omega (arith, ints, x, x', y, y', apart);
    }

-- .. and so for any
pub stretch_set : (ps : List Point) (p q : Point) → IsGridStretch ps p q → StretchSet ps p q
stretch_set ps p q is = elim is.straight [
  | inl same ↦ column_stretch_set ps p q (place_of p.x (xs_of ps)) (place_of p.y (ys_of ps)) (place_of q.y (ys_of ps))
      (IsColumnStretch-from_same ps p q is.from is.to same)
  | inr same ↦ row_stretch_set ps p q (place_of p.y (ys_of ps)) (place_of p.x (xs_of ps)) (place_of q.x (xs_of ps))
      (IsRowStretch-from_same ps p q is.from is.to same)
]

-- a set of just the edges of a stretch is as long as its ends are apart
pub length_of-stretch : (ps : List Point) (p q : Point) (set : List Bool) → IsGridStretch ps p q →
    ((e : ℕ) → (slice_get set e ≡ Some true) ↔ IsOnStretch ps p q e) →
    length_of (hanan_grid_of ps) set ≡ distance_between p q
length_of-stretch ps p q set is edges =
    let g = hanan_grid_of ps in
    let other = stretch_set ps p q is in
    let no_more = length_of_edges-within g.edges set other.set (λ e inside. other.adds.put e ((edges e).0 inside)) in
    let no_less = length_of_edges-within g.edges other.set set
    (λ e inside. (edges e).1 (Adds-holds (IsOnStretch ps p q) (length g.edges) other.set other.adds e inside)) in
    let long = other.long in
    omega (arith, no_more, no_less, long)

-- a stretch that is added makes a set longer by no more than its ends are apart
pub length_of-adds_stretch : (ps : List Point) (p q : Point) (old new : List Bool) → IsGridStretch ps p q →
    Adds (IsOnStretch ps p q) old new →
    length_of (hanan_grid_of ps) new ≤ length_of (hanan_grid_of ps) old + distance_between p q
length_of-adds_stretch ps p q old new is adds =
    let g = hanan_grid_of ps in
    let other = stretch_set ps p q is in
    let union = length_of_edges-union g.edges new old other.set
    (λ e inside. ⊎_elim (λ before. inl before) (λ on. inr (other.adds.put e on)) (adds.only e inside)) in
    let long = other.long in
    omega (arith, union, long)

-- ---- where they lead

-- the row's edges lead from one column to every column between
row_leads : (ps : List Point) (set : List Bool) (row a b t : ℕ) → row < length (ys_of ps) →
    a < length (xs_of ps) →
    b < length (xs_of ps) → t < length (xs_of ps) →
    IsBetween (line_at (xs_of ps) a) (line_at (xs_of ps) b) (line_at (xs_of ps) t) →
    ((e : ℕ) → IsInRow ps row a b e → slice_get set e ≡ Some true) →
    Leads (Links (hanan_grid_of ps) set) (vertex_number (length (xs_of ps)) a row)
    (vertex_number (length (xs_of ps)) t row)
row_leads ps set row a b t row_in a_in b_in t_in between holds =
    let xs = xs_of ps in
    line_leads (Links (hanan_grid_of ps) set) (λ i. vertex_number (length xs) i row) a t
    (Links-back (hanan_grid_of ps) set) (λ i passed.
    let column : i + 1 < length xs =
    ⊎_elim (λ right. omega (arith, right.1)) (λ left. omega (arith, left.1)) passed in (
      horizontal_number xs row i,
      horizontal xs row i,
      holds (horizontal_number xs row i) (
        i,
        record { row = row_in; column = column; number = refl },
        passed_further xs a b t i a_in b_in t_in (IsRising-xs_of ps) between passed,
      ),
      slice_get-horizontal xs (ys_of ps) row i row_in column,
      inl (refl, refl),
    ))

-- the column's edges lead from one row to every row between
column_leads : (ps : List Point) (set : List Bool) (column a b t : ℕ) → column < length (xs_of ps) →
    a < length (ys_of ps) →
    b < length (ys_of ps) → t < length (ys_of ps) →
    IsBetween (line_at (ys_of ps) a) (line_at (ys_of ps) b) (line_at (ys_of ps) t) →
    ((e : ℕ) → IsInColumnBetween ps column a b e → slice_get set e ≡ Some true) →
    Leads (Links (hanan_grid_of ps) set) (vertex_number (length (xs_of ps)) column a)
    (vertex_number (length (xs_of ps)) column t)
column_leads ps set column a b t column_in a_in b_in t_in between holds =
    let xs = xs_of ps in
    let ys = ys_of ps in
    line_leads (Links (hanan_grid_of ps) set) (λ j. vertex_number (length xs) column j) a t
    (Links-back (hanan_grid_of ps) set) (λ j passed.
    let row : j + 1 < length ys = ⊎_elim (λ up. omega (arith, up.1)) (λ down. omega (arith, down.1)) passed in (
      vertical_number xs ys j column,
      vertical (length xs) ys j column,
      holds (vertical_number xs ys j column) (
        j,
        record { row = row; column = column_in; number = refl },
        passed_further ys a b t j a_in b_in t_in (IsRising-ys_of ps) between passed,
      ),
      slice_get-vertical xs ys j column row column_in,
      inl (refl, refl),
    ))

-- an edge of the column is on the stretch
IsOnStretch-column : (ps : List Point) (p q : Point) (column a b e : ℕ) →
    IsColumnStretch ps p q column a b → IsInColumnBetween ps column a b e → IsOnStretch ps p q e
IsOnStretch-column ps p q column a b e is on = grind (arith, IsOnStretch-in_column ps column a b e is.a_in is.b_in on)

-- a number that is between two is between what these are equal to
IsBetween-same : (a b a' b' z : ℤ) → a' ≡ a → b' ≡ b → IsBetween a b z → IsBetween a' b' z
IsBetween-same a b a' b' z first second between = rw (first, second) between

-- a set with all edges of a stretch leads from its first end to each vertex on it
pub Leads-stretch : (ps : List Point) (p q : Point) (set : List Bool) (v : ℕ) → IsGridStretch ps p q →
    ((e : ℕ) → IsOnStretch ps p q e → slice_get set e ≡ Some true) → IsVertexOnStretch ps p q v →
    Leads (Links (hanan_grid_of ps) set) (vertex_of (xs_of ps) (ys_of ps) p) v
Leads-stretch ps p q set v is holds on =
    let xs = xs_of ps in
    let ys = ys_of ps in
    let nx = length xs in
    let Step = Links (hanan_grid_of ps) set in
    let i = v % nx in
    let j = v / nx in
    let i_in : i < nx = column_of-below nx (length ys) v on.below in
    let j_in : j < length ys = row_of-below nx (length ys) v on.below in
    let parts : vertex_number nx i j ≡ v = vertex_number-parts nx v in
    elim is.straight [
      | inl same ↦ let c = place_of p.x xs in
          let at = IsColumnStretch-from_same ps p q is.from is.to same in
          let x : line_at xs c ≡ p.x = ap (λ (z : Point). z.x) at.from in
          let x' : line_at xs c ≡ q.x = ap (λ (z : Point). z.x) at.to in
          let y : line_at ys (place_of p.y ys) ≡ p.y = ap (λ (z : Point). z.y) at.from in
          let y' : line_at ys (place_of q.y ys) ≡ q.y = ap (λ (z : Point). z.y) at.to in
          let column : i ≡ c = same_place xs i c i_in at.column_in (IsRising-xs_of ps)
          (same_between (line_at xs c) (line_at xs i) (IsBetween-same p.x q.x (line_at xs c) (line_at xs c)
          (line_at xs i) x x' on.between.x)) in
          let led = column_leads ps set c (place_of p.y ys) (place_of q.y ys) j at.column_in at.a_in at.b_in j_in
          (IsBetween-same p.y q.y (line_at ys (place_of p.y ys)) (line_at ys (place_of q.y ys))
          (line_at ys j) y y' on.between.y)
          (λ e inside. holds e (IsOnStretch-column ps p q c (place_of p.y ys) (place_of q.y ys) e at inside)) in
          subst (λ w. Leads Step (vertex_of xs ys p) w) (ap (λ k. vertex_number nx k j) (sym column) ∙ parts) led
      | inr same ↦ let r = place_of p.y ys in
          let at = IsRowStretch-from_same ps p q is.from is.to same in
          let x : line_at xs (place_of p.x xs) ≡ p.x = ap (λ (z : Point). z.x) at.from in
          let x' : line_at xs (place_of q.x xs) ≡ q.x = ap (λ (z : Point). z.x) at.to in
          let y : line_at ys r ≡ p.y = ap (λ (z : Point). z.y) at.from in
          let y' : line_at ys r ≡ q.y = ap (λ (z : Point). z.y) at.to in
          let row : j ≡ r = same_place ys j r j_in at.row_in (IsRising-ys_of ps)
          (same_between (line_at ys r) (line_at ys j) (IsBetween-same p.y q.y (line_at ys r) (line_at ys r)
          (line_at ys j) y y' on.between.y)) in
          let led = row_leads ps set r (place_of p.x xs) (place_of q.x xs) i at.row_in at.a_in at.b_in i_in
          (IsBetween-same p.x q.x (line_at xs (place_of p.x xs)) (line_at xs (place_of q.x xs))
          (line_at xs i) x x' on.between.x)
          (λ e inside. holds e
          (grind (arith, IsOnStretch-in_row ps r (place_of p.x xs) (place_of q.x xs) e at.a_in at.b_in inside))) in
          subst (λ w. Leads Step (vertex_of xs ys p) w) (ap (λ k. vertex_number nx i k) (sym row) ∙ parts) led
    ]

-- .. and so joins all vertices on it
pub Joins-stretch : (ps : List Point) (p q : Point) (set : List Bool) (vertices : List ℕ) →
    IsGridStretch ps p q →
    ((e : ℕ) → IsOnStretch ps p q e → slice_get set e ≡ Some true) → All (IsVertexOnStretch ps p q) vertices →
    Joins (hanan_grid_of ps) set vertices
Joins-stretch ps p q set vertices is holds on =
    Joins-from (hanan_grid_of ps) set (vertex_of (xs_of ps) (ys_of ps) p) vertices
    (λ v listed. Leads-stretch ps p q set v is holds (All-contains (IsVertexOnStretch ps p q) vertices v on listed))

-- of two numbers one is no more than the other
either_le : (a b : ℤ) → (a ≤ℤ b) ⊎ (b ≤ℤ a)
either_le a b =
    by_lt_z a b (λ below. inl (omega (arith, ints, below))) (λ not_below. inr (omega (arith, ints, not_below)))

-- a number is between itself and another
first_between : (a b : ℤ) → IsBetween a b a
first_between a b = grind (arith, either_le a b, ints)

-- .. and so is the other
last_between : (a b : ℤ) → IsBetween a b b
last_between a b = grind (arith, either_le a b, ints)

-- the first end of a stretch is on it
pub IsVertexOnStretch-from : (ps : List Point) (p q : Point) → IsGridStretch ps p q →
    IsVertexOnStretch ps p q (vertex_of (xs_of ps) (ys_of ps) p)
IsVertexOnStretch-from ps p q is =
    grind (
      arith,
      vertex_of-crossing-below (xs_of ps) (ys_of ps) p (IsRising-xs_of ps) (IsRising-ys_of ps) is.from,
      point_of_vertex-vertex_of (xs_of ps) (ys_of ps) p (IsRising-xs_of ps) (IsRising-ys_of ps) is.from,
      first_between p.x q.x,
      first_between p.y q.y,
    )

-- .. and so is the other
pub IsVertexOnStretch-to : (ps : List Point) (p q : Point) → IsGridStretch ps p q →
    IsVertexOnStretch ps p q (vertex_of (xs_of ps) (ys_of ps) q)
IsVertexOnStretch-to ps p q is =
    grind (
      arith,
      vertex_of-crossing-below (xs_of ps) (ys_of ps) q (IsRising-xs_of ps) (IsRising-ys_of ps) is.to,
      point_of_vertex-vertex_of (xs_of ps) (ys_of ps) q (IsRising-xs_of ps) (IsRising-ys_of ps) is.to,
      last_between p.x q.x,
      last_between p.y q.y,
    )
