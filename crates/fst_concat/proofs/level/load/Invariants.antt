use Rattle.std.proofs.Common.{◌≡◌, ◌≤◌, ◌+◌, ◌*◌, drop}
use Rattle.concatenation.specs.Partitions.{load_of}
use Rattle.fst_concat.specs.Levels.{layers_of}
use Rattle.fst_concat.proofs.level.load.Given as goal

abbrev pub invariant-loop-level : goal.invariant-loop-level
invariant-loop-level l = record {
  sum : l.load + load_of (layers_of l.points (drop l.level-index l.levels)) l.tree ≡ load_of (layers_of l.points l.levels) l.tree;
  small : l.load ≤ l.level-index * (18446744073709551615 * 8);
}
