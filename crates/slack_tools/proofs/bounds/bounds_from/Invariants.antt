use Rattle.std.proofs.Common.{ℕ, ◌≡◌, ◌<◌, length, get_or}
use Rattle.hanan_grid.specs.Grid.{hanan_grid_of}
use Rattle.slack_tools.specs.Bounds.{BoundsEdge}
use Rattle.slack_tools.proofs.bounds.bounds_from.Given as goal

-- a bound for each edge so far
abbrev pub invariant-loop-edge : goal.invariant-loop-edge
invariant-loop-edge g l = (length l.bounds.items ≡ l.edge)
    × ((e : ℕ) → e < l.edge → BoundsEdge (hanan_grid_of l.grid) e (get_or l.bounds.items e 0))
