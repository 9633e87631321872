use Rattle.std.proofs.Common.{◌≡◌, ◌≤◌, ◌+◌, ◌*◌, drop}
use Rattle.concatenation.specs.Partitions.{bound_of}
use Rattle.fst_concat.specs.Levels.{layers_of}
use Rattle.fst_concat.proofs.level.bound.Given as goal

abbrev pub invariant-loop-level : goal.invariant-loop-level
invariant-loop-level l = record {
  sum : l.bound + bound_of (layers_of l.points (drop l.level-index l.levels)) ≡ bound_of (layers_of l.points l.levels);
  small : l.bound ≤ l.level-index * (18446744073709551615 * 50);
}
