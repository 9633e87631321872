-- How a table of lengths is made shorter by way of one more terminal (after Warshall 1962 and Floyd 1962).
use Rattle.std.specs.Prelude.{ℕ, ◌*◌, ◌≡◌, ◌≢◌, ◌<◌, ◌≤◌, List, length, min, max}
use Rattle.points_in.specs.declared.point.Point.{Point}
use Rattle.hanan_grid.specs.Distance.{distance_of}
use Rattle.spanning.specs.Bottleneck.{entry}

-- the lesser of the length from i to j and the greater of the lengths from i to `middle` and from there to j
abbrev pub relaxed : (ℕ → ℕ → ℕ) → ℕ → ℕ → ℕ → ℕ
relaxed lengths middle i j = min (lengths i j) (max (lengths i middle) (lengths middle j))

-- the table holds the distances of the terminals
pub record AreDistances (ps : List Point) (lengths : List ℕ) : Type 0 where
  pub size : length lengths ≡ length ps * length ps
  pub each : (i j : ℕ) → i < length ps → j < length ps → entry lengths (length ps) i j ≡ distance_of ps i j

-- the first `rows` rows of a table of n rows were made shorter by way of `middle`, the others are as before
pub record RelaxesRows (n middle rows : ℕ) (old new : List ℕ) : Type 0 where
  pub size : length new ≡ length old
  pub done : (i j : ℕ) → i < rows → j < n → entry new n i j ≡ relaxed (entry old n) middle i j
  pub rest : (i j : ℕ) → rows ≤ i → i < n → j < n → entry new n i j ≡ entry old n i j

-- the first `columns` places of one row were made shorter by way of `middle`, and all others are as before
pub record RelaxesRow (n middle row columns : ℕ) (old new : List ℕ) : Type 0 where
  pub size : length new ≡ length old
  pub done : (j : ℕ) → j < columns → entry new n row j ≡ relaxed (entry old n) middle row j
  pub after : (j : ℕ) → columns ≤ j → j < n → entry new n row j ≡ entry old n row j
  pub others : (i j : ℕ) → i ≢ row → i < n → j < n → entry new n i j ≡ entry old n i j
