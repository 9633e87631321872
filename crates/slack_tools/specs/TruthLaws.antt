-- What follows of bounds that were printed.
use Rattle.std.proofs.Common.{ℕ, List, length, Option, subst, sym, arith}
use Rattle.std.specs.Prelude.{Contains, slice_index}
use Rattle.rst_outside.specs.Sink.{Appended}
use Rattle.rst_outside.specs.Source.{CameToTheEnd}
use Rattle.points_in.specs.declared.point.Point.{Point}
use Rattle.points_in.specs.Terminals.{terminals_of}
use Rattle.points_in.specs.Text.{IsPointText}
use Rattle.tool_frame.specs.Outside.{Outside}
use Rattle.tool_frame.specs.Points.{grid_of_points}
use Rattle.slack_tools.specs.Bounds.{AreEdgeBounds, BoundsEdge}
use Rattle.slack_tools.specs.ListedLaws.{listed-above, passing-from, unlisted-within}
use Rattle.slack_tools.specs.Text.{is_above, listed, slack_text}
use Rattle.slack_tools.specs.Truth.{BoundsTruly}

-- an edge that has a line is one of the grid, and has its bound
line_bounds : (above : Option ℕ) (points : List Point) (bounds : List ℕ) (e : ℕ) →
    AreEdgeBounds (grid_of_points points) bounds → Contains (listed above bounds) e →
    BoundsEdge (grid_of_points points) e (slice_index bounds e)
line_bounds above points bounds e are inside =
    let count = are.count in
    let (below, passes) = passing-from (λ n. is_above above (slice_index bounds n)) (length bounds) e inside in
    are.each e (omega arith)

-- Bounds of the edges that were printed are true.
pub bounds_truly : (above : Option ℕ) (before after : Outside) (bytes : List ℕ) (points : List Point)
    (bounds : List ℕ) → CameToTheEnd before.read.input.rest bytes after.read.input.rest → IsPointText bytes points →
    AreEdgeBounds (grid_of_points points) bounds →
    Appended before.written.out.taken (slack_text (terminals_of points) above bounds) after.written.out.taken →
    BoundsTruly above before after
bounds_truly above before after bytes points bounds came text are appended = record {
  bytes = bytes;
  points = points;
  bounds = bounds;
  came = came;
  text = text;
  printed = appended;
  are_bounds = are;
  lines = λ e inside. line_bounds above points bounds e are inside;
  longer = λ most is e inside other network used.
      let bounds_it = line_bounds above points bounds e are inside in
      let low = bounds_it.least other network used in
      let more = listed-above most bounds e (subst (λ a. Contains (listed a bounds) e) is inside) in
      omega arith;
  left_out = λ most is e within none.
      let count = are.count in
      let one = are.each e within in (
        slice_index bounds e,
        one.value,
        unlisted-within most bounds e (omega arith)
            (λ inside. none (subst (λ a. Contains (listed a bounds) e) (sym is) inside)),
      );
}
