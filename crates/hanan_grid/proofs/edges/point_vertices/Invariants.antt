use Rattle.std.proofs.Common.{◌≡◌, ◌≤◌, length, map, take, vec_capacity}
use Rattle.hanan_grid.specs.Grid.{vertex_of}
use Rattle.hanan_grid.proofs.edges.point_vertices.Given as goal

-- the vertices of the points so far are there, and there is room for all
abbrev pub invariant-loop-point : goal.invariant-loop-point
invariant-loop-point l =
    (l.vertices.items ≡ map (vertex_of l.xs l.ys) (take l.point-index l.points)) × (length l.points ≤ vec_capacity l.vertices)
