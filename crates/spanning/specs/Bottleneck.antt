-- Bottlenecks of terminals. A terminal is named by its place in the list.
use Rattle.std.specs.Prelude.{ℕ, ◌+◌, ◌*◌, ◌≡◌, ◌≢◌, ◌<◌, ◌≤◌, List, length, slice_index}
use Rattle.points_in.specs.declared.point.Point.{Point}
use Rattle.hanan_grid.specs.Distance.{distance_of}
use Rattle.net_graph.specs.Search.{Leads}

-- a hop from one terminal to another, no longer than `most`
pub record IsHop (ps : List Point) (most i j : ℕ) : Type 0 where
  pub from : i < length ps
  pub to : j < length ps
  pub short : distance_of ps i j ≤ most

-- a chain of hops no longer than this leads from i to j, and no chain whose hops are all shorter does
pub record IsBottleneck (ps : List Point) (i j bottleneck : ℕ) : Type 0 where
  pub chain : Leads (IsHop ps bottleneck) i j
  pub least : (most : ℕ) → Leads (IsHop ps most) i j → bottleneck ≤ most

-- two terminals whose distance is their bottleneck
pub record IsTight (ps : List Point) (i j : ℕ) : Type 0 where
  pub from : i < length ps
  pub to : j < length ps
  pub apart : i ≢ j
  pub bottleneck : IsBottleneck ps i j (distance_of ps i j)

-- the length of row i and column j of a table, which is kept row by row
abbrev pub entry : List ℕ → ℕ → ℕ → ℕ → ℕ
entry lengths n i j = slice_index lengths (i * n + j)

-- the table has a row and a column for each terminal, and the bottleneck of each two of them
pub record AreBottlenecks (ps : List Point) (lengths : List ℕ) : Type 0 where
  pub size : length lengths ≡ length ps * length ps
  pub each : (i j : ℕ) → i < length ps → j < length ps → IsBottleneck ps i j (entry lengths (length ps) i j)
