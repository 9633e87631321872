-- From the bounds that were found to what is due to the text.
use Rattle.std.proofs.Common.{ℕ, List, Option, Ok, arith}
use Rattle.points_in.specs.declared.point.Point.{Point}
use Rattle.hanan_grid.specs.Grid.{hanan_grid_of}
use Rattle.tool_frame.specs.Points.{ReadsGrid}
use Rattle.slack_tools.specs.Bounds.{AreEdgeBounds}
use Rattle.slack_tools.specs.Slack.{BoundsEdges, slack_print}

-- The bounds for the grid that was read are what is due to the text.
pub found_bounds : (above : Option ℕ) (bytes : List ℕ) (grid : List Point) (bounds : List ℕ) →
    ReadsGrid bytes (Ok grid) → AreEdgeBounds (hanan_grid_of grid) bounds →
    BoundsEdges above bytes (Ok (slack_print grid above bounds))
found_bounds above bytes grid bounds (ps, lists, is) are = grind arith
