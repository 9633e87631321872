-- What a file between the phases holds: points, and full trees of them.
use Rattle.std.specs.Prelude.{ℕ, ◌≡◌, ◌≤◌, ◌<◌, ◌^◌, List, length}
use Rattle.std.specs.List.{AllByRecursion}
use Rattle.points_in.specs.declared.point.Point.{Point}
use Rattle.points_in.specs.Points.{ArePoints}
use Rattle.net_graph.specs.Graph.{total_of}
use Rattle.hanan_grid.specs.Grid.{hanan_grid_of}
use Rattle.full_tree.specs.declared.code.Tree.{Tree}
use Rattle.full_tree.specs.Form.{IsInForm}
use Rattle.full_tree.specs.Pieces.{code_length}
use Rattle.full_tree.specs.Order.{IsInFileOrder}

pub record FstValue : Type 0 where
  pub points : List Point
  pub trees : List Tree

-- the length of all edges of the points' grid
abbrev pub grid_total : List Point → ℕ
grid_total ps = total_of (hanan_grid_of ps)

-- a tree of the points: its code is in form, and it has its code's length, which is a number of 64 bits
pub record IsTreeOf (ps : List Point) (t : Tree) : Type 0 where
  pub form : IsInForm ps t.code
  pub length_is : t.length ≡ code_length ps t.code
  pub length_fits : t.length < 2 ^ 64

-- at most 20,000 trees of the points in strictly ascending file order
pub record AreTreesOf (ps : List Point) (ts : List Tree) : Type 0 where
  pub few : length ts ≤ 20000
  pub trees : AllByRecursion (IsTreeOf ps) ts
  pub ordered : IsInFileOrder ts

-- points whose grid's total is below 2^63, and trees of them
pub record IsFstValue (v : FstValue) : Type 0 where
  pub points : ArePoints v.points
  pub fits : grid_total v.points < 2 ^ 63
  pub trees : AreTreesOf v.points v.trees
