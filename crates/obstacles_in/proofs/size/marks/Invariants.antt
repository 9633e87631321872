use Rattle.std.specs.Prelude.{◌≡◌, ◌++◌, flat_map}
use Rattle.std.proofs.Common.{take}
use Rattle.obstacles_in.specs.Obstacles.{corners_of}
use Rattle.obstacles_in.proofs.size.marks.Given as goal

abbrev pub invariant-loop-sides : goal.invariant-loop-sides
invariant-loop-sides l = l.marks.items ≡ l.points ++ flat_map corners_of (take l.sides-index l.boxes)
