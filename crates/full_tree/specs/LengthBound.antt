-- How long a full tree is at most.
use Rattle.std.specs.Prelude.{◌≤◌, List}
use Rattle.points_in.specs.declared.point.Point.{Point}
use Rattle.net_graph.specs.Graph.{total_of}
use Rattle.hanan_grid.specs.Grid.{hanan_grid_of}
use Rattle.full_tree.specs.declared.code.TreeCode.{TreeCode}
use Rattle.full_tree.specs.Form.{IsInForm}
use Rattle.full_tree.specs.Pieces.{code_length}

-- a tree in form is no longer than the points' grid
abbrev pub LengthsAreWithinTheGrid : Type 0
LengthsAreWithinTheGrid =
    (ps : List Point) (code : TreeCode) → IsInForm ps code → code_length ps code ≤ total_of (hanan_grid_of ps)
