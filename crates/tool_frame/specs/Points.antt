-- Points and their grid, read from a text or from a file, and why there are none.
use Rattle.std.specs.Prelude.{ℕ, ◌≡◌, ◌<◌, ◌≤◌, ◌^◌, List, Result, Ok, Err}
use Rattle.rst_outside.specs.Shelf.{ShelfState}
use Rattle.points_in.specs.declared.point.Point.{Point}
use Rattle.points_in.specs.Terminals.{terminals_of}
use Rattle.points_in.specs.declared.fault.PointFault.TheVariants as point_fault
use Rattle.points_in.specs.Text.{IsPointText, PointFaultOf}
use Rattle.net_graph.specs.Graph.{Graph, total_of}
use Rattle.hanan_grid.specs.Grid.{hanan_grid_of}
use Rattle.tool_frame.specs.declared.points.ListFault.{ListFault}
use Rattle.tool_frame.specs.declared.points.ListFault.TheVariants.{BadNumber, NumberTooLarge, TooManyPoints, OddCount, NoPoints, GridTooLong}
use Rattle.tool_frame.specs.declared.points.PointsFault.{PointsFault}
use Rattle.tool_frame.specs.declared.points.PointsFault.TheVariants.{File, List as InList}
use Rattle.tool_frame.specs.Taking.{IsWholeFile, IsFileFault}

-- Hanan's grid of the points, of which repeats are dropped
abbrev pub grid_of_points : List Point → Graph
grid_of_points ps = hanan_grid_of (terminals_of ps)

-- the bytes list these points, whose grid isn't too long
pub record ListsPoints (bytes : List ℕ) (ps : List Point) : Type 0 where
  pub text : IsPointText bytes ps
  pub short : total_of (grid_of_points ps) < 2 ^ 63

-- Why bytes give no grid: they are no text of points, by its first fault; or the edges of the grid of theirs sum to
-- this total, which is too great.
abbrev pub IsListFault : List ℕ → ListFault → Type 0
IsListFault bytes (BadNumber at) = PointFaultOf bytes (point_fault.BadNumber at)
IsListFault bytes (NumberTooLarge at) = PointFaultOf bytes (point_fault.NumberTooLarge at)
IsListFault bytes (TooManyPoints at) = PointFaultOf bytes (point_fault.TooManyPoints at)
IsListFault bytes OddCount = PointFaultOf bytes point_fault.OddCount
IsListFault bytes NoPoints = PointFaultOf bytes point_fault.NoPoints
IsListFault bytes (GridTooLong total) =
    (ps : List Point) × IsPointText bytes ps × (total ≡ total_of (grid_of_points ps)) × (2 ^ 63 ≤ total)

-- The grid of the points that the bytes list, which contracts see as the points without repeats; or why there is none.
abbrev pub ReadsGrid : List ℕ → Result (List Point) ListFault → Type 0
ReadsGrid bytes (Ok grid) = (ps : List Point) × ListsPoints bytes ps × (grid ≡ terminals_of ps)
ReadsGrid bytes (Err fault) = IsListFault bytes fault

-- the file of this name lists these points, whose grid isn't too long
abbrev pub FileLists : ℕ → ShelfState → List ℕ → List Point → Type 0
FileLists limit shelf name ps = (bytes : List ℕ) × IsWholeFile limit shelf name bytes × ListsPoints bytes ps

-- Why the file of this name gives no grid.
abbrev pub IsPointsFault : ℕ → ShelfState → ShelfState → List ℕ → PointsFault → Type 0
IsPointsFault limit shelf shelf' name (File fault) = IsFileFault limit shelf shelf' name fault
IsPointsFault limit shelf shelf' name (InList fault) =
    (bytes : List ℕ) × IsWholeFile limit shelf name bytes × IsListFault bytes fault

-- The grid of the points that the file lists; or why there is none.
abbrev pub ReadsPointsFile : ℕ → ShelfState → ShelfState → List ℕ → Result (List Point) PointsFault → Type 0
ReadsPointsFile limit shelf shelf' name (Ok grid) =
    (ps : List Point) × FileLists limit shelf name ps × (grid ≡ terminals_of ps)
ReadsPointsFile limit shelf shelf' name (Err fault) = IsPointsFault limit shelf shelf' name fault
