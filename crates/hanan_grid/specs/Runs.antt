-- The edges of a row and of a column between two places.
use Rattle.std.specs.Prelude.{ℕ, ◌<◌, ◌≤◌, ◌⊎◌, List}
use Rattle.points_in.specs.declared.point.Point.{Point}
use Rattle.hanan_grid.specs.Grid.{xs_of, ys_of}
use Rattle.hanan_grid.specs.NamesLaws.{IsHorizontal, IsVertical}

-- the edge is horizontal, in the row, and between two columns, of which either may be the lower
abbrev pub IsInRow : List Point → ℕ → ℕ → ℕ → ℕ → Type 0
IsInRow ps row from to e =
    (column : ℕ) × IsHorizontal (xs_of ps) (ys_of ps) e row column
    × (((from ≤ column) × (column < to)) ⊎ ((to ≤ column) × (column < from)))

-- the edge is vertical, in the column, and between two rows, of which either may be the lower
abbrev pub IsInColumnBetween : List Point → ℕ → ℕ → ℕ → ℕ → Type 0
IsInColumnBetween ps column from to e =
    (row : ℕ) × IsVertical (xs_of ps) (ys_of ps) e row column
    × (((from ≤ row) × (row < to)) ⊎ ((to ≤ row) × (row < from)))
