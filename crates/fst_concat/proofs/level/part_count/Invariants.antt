use Rattle.std.proofs.Common.{◌≡◌, ◌≤◌, ◌+◌, drop, length}
use Rattle.full_tree.specs.Code.{ascending_places}
use Rattle.fst_concat.proofs.level.part_count.Given as goal

abbrev pub invariant-loop-place : goal.invariant-loop-place
invariant-loop-place l = record {
  count : l.count ≡ length (ascending_places (drop l.place l.labels));
  few : l.count + l.place ≤ length l.labels;
}
