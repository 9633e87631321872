-- What is true where `slack` printed its text.
use Rattle.std.specs.Prelude.{ℕ, ◌≡◌, ◌<◌, ◌≤◌, Bool, List, length, slice_index, Contains, Option, Some}
use Rattle.rst_outside.specs.Sink.{Appended}
use Rattle.rst_outside.specs.Source.{CameToTheEnd}
use Rattle.points_in.specs.declared.point.Point.{Point}
use Rattle.points_in.specs.Terminals.{terminals_of}
use Rattle.points_in.specs.Text.{IsPointText}
use Rattle.net_graph.specs.Network.{IsNetwork, length_of}
use Rattle.net_graph.specs.Decision.{InRootPart}
use Rattle.edge_slack.specs.EdgeBound.{IsEdgeBound}
use Rattle.tool_frame.specs.Outside.{Outside}
use Rattle.tool_frame.specs.Points.{grid_of_points}
use Rattle.slack_tools.specs.Bounds.{AreEdgeBounds, BoundsEdge}
use Rattle.slack_tools.specs.Text.{listed, slack_text}

-- The input was read to its end, it is a text of points, and `out` gained the bounds of the edges of their grid. Each
-- printed number is an edge bound of its edge, no network whose root part holds that edge is shorter, and it is at most
-- the sum of all edge lengths. Where there is a threshold, each network that uses a printed edge is longer than it, and
-- each edge that isn't printed has an edge bound of at most the threshold.
pub record BoundsTruly (above : Option ℕ) (before after : Outside) : Type 0 where
  pub bytes : List ℕ
  pub points : List Point
  pub bounds : List ℕ
  pub came : CameToTheEnd before.read.input.rest bytes after.read.input.rest
  pub text : IsPointText bytes points
  pub printed : Appended before.written.out.taken (slack_text (terminals_of points) above bounds)
      after.written.out.taken
  pub are_bounds : AreEdgeBounds (grid_of_points points) bounds
  pub lines : (e : ℕ) → Contains (listed above bounds) e → BoundsEdge (grid_of_points points) e (slice_index bounds e)
  pub longer : (most : ℕ) → above ≡ Some most → (e : ℕ) → Contains (listed above bounds) e →
      (other : List Bool) → IsNetwork (grid_of_points points) other → InRootPart (grid_of_points points) other e →
      most < length_of (grid_of_points points) other
  pub left_out : (most : ℕ) → above ≡ Some most → (e : ℕ) → e < length (grid_of_points points).edges →
      (Contains (listed above bounds) e → ⊥) → (n : ℕ) × IsEdgeBound (grid_of_points points) e n × (n ≤ most)
