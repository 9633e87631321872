use Rattle.std.proofs.Common.{◌≡◌, ◌≤◌, length, map, take, vec_capacity}
use Rattle.hanan_grid.proofs.lines.x_lines.Given as goal

-- the vector holds the coordinates of the points so far, and has room for all
abbrev pub invariant-loop-point : goal.invariant-loop-point
invariant-loop-point l = (l.values.items ≡ map (λ p. p.x) (take l.point-index l.points)) × (length l.points ≤ vec_capacity l.values)
