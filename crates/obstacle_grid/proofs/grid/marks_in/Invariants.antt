use Rattle.std.proofs.Common.{◌≡◌, ◌++◌, take, flat_map}
use Rattle.obstacles_in.specs.Obstacles.{corners_of}
use Rattle.obstacle_grid.proofs.grid.marks_in.Given as goal

-- the points, and the corners of the boxes passed
abbrev pub invariant-loop-b : goal.invariant-loop-b
invariant-loop-b l = record {
  boxes : l.boxes ≡ l.obstacles.boxes;
  marks : l.marks.items ≡ l.obstacles.points ++ flat_map corners_of (take l.b-index l.boxes);
}
