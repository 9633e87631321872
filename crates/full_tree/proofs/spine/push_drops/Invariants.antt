use Rattle.std.proofs.Common.{◌≡◌, ◌++◌, take}
use Rattle.full_tree.specs.Geometry.{point_at}
use Rattle.full_tree.specs.Stations.{first_stations, last_foot}
use Rattle.full_tree.proofs.spine.push_drops.Given as goal

abbrev pub invariant-loop-drop : goal.invariant-loop-drop
invariant-loop-drop l =
    (l.stations ≡ l.fn.stations ++ first_stations l.points l.root l.toward (take l.drop-index l.drops))
    × (l.from ≡ last_foot l.points l.root l.toward (point_at l.points l.root) (take l.drop-index l.drops))
