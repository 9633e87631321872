-- What `slack` finds, by what it read.
use Rattle.std.specs.Prelude.{ℕ, ◌≡◌, List, codes, Option, Result, Ok, Err}
use Rattle.points_in.specs.declared.point.Point.{Point}
use Rattle.points_in.specs.Terminals.{terminals_of}
use Rattle.tool_frame.specs.declared.status.AnswerStatus.TheVariants.{Done}
use Rattle.tool_frame.specs.declared.take.TheConstants.{TEXT_LIMIT}
use Rattle.tool_frame.specs.declared.points.ListFault.{ListFault}
use Rattle.tool_frame.specs.Outside.{Outside}
use Rattle.tool_frame.specs.Ends.{Print, Ends}
use Rattle.tool_frame.specs.FaultTexts.{list_fault_text, list_fault_status, text_fault_text, text_fault_status}
use Rattle.tool_frame.specs.FromText.{FromText}
use Rattle.tool_frame.specs.Leaves.{LeavesShelf}
use Rattle.tool_frame.specs.Points.{ListsPoints, IsListFault, grid_of_points}
use Rattle.slack_tools.specs.Bounds.{AreEdgeBounds}
use Rattle.slack_tools.specs.Text.{slack_text}

-- what is printed of points, a threshold and the bounds of the edges of the points' grid
abbrev pub slack_print : List Point → Option ℕ → List ℕ → Print
slack_print points above bounds = record { text = slack_text points above bounds; status = Done }

-- What `slack` finds in a text: for each edge of the grid of the points that it lists an edge bound; or why it lists
-- none.
abbrev pub BoundsEdges : Option ℕ → List ℕ → Result Print ListFault → Type 0
BoundsEdges above bytes (Ok print) = (ps : List Point) × (bounds : List ℕ) × ListsPoints bytes ps
    × AreEdgeBounds (grid_of_points ps) bounds × (print ≡ slack_print (terminals_of ps) above bounds)
BoundsEdges above bytes (Err fault) = IsListFault bytes fault

-- A run of `slack`, with or without a threshold.
abbrev pub EndsSlack : Option ℕ → Outside → Outside → ℕ → Type 0
EndsSlack above before after status =
    Ends (text_fault_status list_fault_status) (text_fault_text list_fault_text) (codes "slack")
    (FromText TEXT_LIMIT (BoundsEdges above)) LeavesShelf before after status
