use Rattle.std.proofs.Common.{◌≡◌, ◌≤◌, ◌+◌, ◌*◌, drop}
use Rattle.concatenation.specs.Concatenation.{total_of}
use Rattle.fst_concat.proofs.best.total_of.Given as goal

abbrev pub invariant-loop-place : goal.invariant-loop-place
invariant-loop-place l = record {
  sum : l.total + total_of (drop l.place l.trees) (drop l.place l.set) ≡ total_of l.trees l.set;
  small : l.total ≤ l.place * 18446744073709551615;
}
