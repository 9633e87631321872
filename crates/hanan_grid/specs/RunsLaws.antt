-- Laws of the edges of a row and of a column: how they add up in a set, and where they lead.
use Rattle.std.proofs.Common.{ℕ, zero, suc, ◌≡◌, ◌+◌, ◌-◌, ◌<◌, ◌≤◌, Bool, true, List, length, slice_get}
use Rattle.std.proofs.Common.{slice_set, Some, ◌⊎◌, inl, inr, sym, ap, ◌∙◌, subst, arith}
use Rattle.std.proofs.lemmas.Bool.{cases_lt}
use Rattle.std.proofs.lemmas.Option.{get_or_from_slice_get, slice_get_within}
use Rattle.points_in.specs.declared.point.Point.{Point}
use Rattle.net_graph.specs.declared.edge.Edge.{Edge}
use Rattle.net_graph.specs.Adds.{Adds}
use Rattle.net_graph.specs.AddsLaws.{Adds-one, Adds-then}
use Rattle.net_graph.specs.Search.{Leads}
use Rattle.net_graph.specs.SearchLaws.{Leads-start, Leads-more, Leads-back}
use Rattle.hanan_grid.specs.Grid.{xs_of, ys_of, horizontal, vertical, hanan_grid_of}
use Rattle.hanan_grid.specs.GridLaws.{horizontal_number, vertical_number, slice_get-horizontal, slice_get-vertical}
use Rattle.hanan_grid.specs.Names.{name_of, no_edge}
use Rattle.hanan_grid.specs.NamesLaws.{IsHorizontal, IsVertical, same_edge}

-- ---- numbers

-- an edge of a grid has one number
pub same_number : (ps : List Point) (e f : ℕ) (edge : Edge) →
    slice_get (hanan_grid_of ps).edges e ≡ Some edge → slice_get (hanan_grid_of ps).edges f ≡ Some edge →
    e ≡ f
same_number ps e f edge at there =
    let edges = (hanan_grid_of ps).edges in
    same_edge ps e f (slice_get_within edges e edge at) (slice_get_within edges f edge there)
    (ap (name_of (xs_of ps) (ys_of ps)) (get_or_from_slice_get edges e edge no_edge at
    ∙ sym (get_or_from_slice_get edges f edge no_edge there)))

-- the number of a vertical edge
pub IsVertical-from_edge : (ps : List Point) (e row column : ℕ) → row + 1 < length (ys_of ps) →
    column < length (xs_of ps) →
    slice_get (hanan_grid_of ps).edges e ≡ Some (vertical (length (xs_of ps)) (ys_of ps) row column) →
    IsVertical (xs_of ps) (ys_of ps) e row column
IsVertical-from_edge ps e row column row_in column_in at =
    grind (
      arith,
      same_number ps e (vertical_number (xs_of ps) (ys_of ps) row column) (vertical (length (xs_of ps))
          (ys_of ps) row column),
      slice_get-vertical (xs_of ps) (ys_of ps) row column row_in column_in,
    )

-- the number of a horizontal edge
pub IsHorizontal-from_edge : (ps : List Point) (e row column : ℕ) → row < length (ys_of ps) →
    column + 1 < length (xs_of ps) →
    slice_get (hanan_grid_of ps).edges e ≡ Some (horizontal (xs_of ps) row column) →
    IsHorizontal (xs_of ps) (ys_of ps) e row column
IsHorizontal-from_edge ps e row column row_in column_in at =
    grind (
      arith,
      same_number ps e (horizontal_number (xs_of ps) row column) (horizontal (xs_of ps) row column),
      slice_get-horizontal (xs_of ps) (ys_of ps) row column row_in column_in,
    )

-- ---- sets

-- the edges of a row from the lower of two columns to a column
abbrev pub IsInRowBelow : List Point → ℕ → ℕ → ℕ → ℕ → Type 0
IsInRowBelow ps row low bound e = (column : ℕ) × (low ≤ column) × (column < bound)
    × IsHorizontal (xs_of ps) (ys_of ps) e row column

-- one edge more of a row
pub row_more : (ps : List Point) (row low column n : ℕ) (old set : List Bool) → low ≤ column →
    n < length set → IsHorizontal (xs_of ps) (ys_of ps) n row column →
    Adds (IsInRowBelow ps row low column) old set →
    Adds (IsInRowBelow ps row low (column + 1)) old (slice_set set n true)
row_more ps row low column n old set above within is adds =
    grind (arith, Adds-then, Adds-one set n within, cases_lt)

-- the edges of a column from the lower of two rows to a row
abbrev pub IsInColumnPart : List Point → ℕ → ℕ → ℕ → ℕ → Type 0
IsInColumnPart ps column low bound e = (row : ℕ) × (low ≤ row) × (row < bound)
    × IsVertical (xs_of ps) (ys_of ps) e row column

-- one edge more of a column
pub column_part_more : (ps : List Point) (column low row n : ℕ) (old set : List Bool) → low ≤ row →
    n < length set → IsVertical (xs_of ps) (ys_of ps) n row column →
    Adds (IsInColumnPart ps column low row) old set →
    Adds (IsInColumnPart ps column low (row + 1)) old (slice_set set n true)
column_part_more ps column low row n old set above within is adds =
    grind (arith, Adds-then, Adds-one set n within, cases_lt)

-- ---- walks

-- the place is passed on the way from one place to another
abbrev pub IsPassed : ℕ → ℕ → ℕ → Type 0
IsPassed from to t = ((from ≤ t) × (t < to)) ⊎ ((to ≤ t) × (t < from))

-- steps from each place to the next lead upwards
line_up : (Step : ℕ → ℕ → Type 0) (f : ℕ → ℕ) (low n : ℕ) →
    ((t : ℕ) → low ≤ t → t < low + n → Step (f t) (f (t + 1))) → Leads Step (f low) (f (low + n))
line_up Step f low zero steps =
    let same : low ≡ low + 0 = omega arith in subst (λ t. Leads Step (f low) (f t)) same (Leads-start Step (f low))
line_up Step f low (suc n) steps =
    let so_far = line_up Step f low n (λ t above below. steps t above (omega arith)) in
    let same : low + n + 1 ≡ low + suc n = omega arith in
    subst (λ t. Leads Step (f low) (f t)) same (Leads-more Step (f low) (f (low + n)) (f (low + n + 1)) so_far
    (steps (low + n) (omega arith) (omega arith)))

-- steps that can be taken back lead from any place to any other
pub line_leads : (Step : ℕ → ℕ → Type 0) (f : ℕ → ℕ) (from to : ℕ) → ((u w : ℕ) → Step u w → Step w u) →
    ((t : ℕ) → IsPassed from to t → Step (f t) (f (t + 1))) → Leads Step (f from) (f to)
line_leads Step f from to back steps = elim (cases_lt from to) [
  | inl above ↦ let same : from + (to - from) ≡ to = omega arith in
      subst (λ t. Leads Step (f from) (f t)) same
      (line_up Step f from (to - from) (λ t low high. steps t (inl (low, omega arith))))
  | inr below ↦ let same : to + (from - to) ≡ from = omega arith in
      Leads-back Step Step back (f to) (f from)
      (subst (λ t. Leads Step (f to) (f t)) same
      (line_up Step f to (from - to) (λ t low high. steps t (inr (low, omega arith)))))
]
