use Rattle.std.proofs.Common.{◌≡◌, ◌+◌, take}
use Rattle.points_in.specs.Terminals.{terminals_of}
use Rattle.drawn_points.proofs.distinct.distinct_points.Given as goal

-- the distinct ones of the points passed
abbrev pub invariant-loop-point : goal.invariant-loop-point
invariant-loop-point l = l.points ≡ terminals_of (take (l.point-index + 1) l.drawn)
