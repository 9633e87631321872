use Rattle.std.proofs.Common.{◌≡◌, ◌≤◌, ◌+◌, drop, map, length}
use Rattle.std.specs.Prelude.{slice_index}
use Rattle.full_tree.specs.Code.{ascending_places}
use Rattle.fst_concat.proofs.level.touched.Given as goal

abbrev pub invariant-loop-place : goal.invariant-loop-place
invariant-loop-place l = record {
  count : l.count ≡ length (ascending_places (map (slice_index l.labels) (drop l.place l.members)));
  few : l.count + l.place ≤ length l.members;
}
