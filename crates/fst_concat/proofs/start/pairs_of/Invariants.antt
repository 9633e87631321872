use Rattle.std.proofs.Common.{◌≡◌, map, take}
use Rattle.fst_concat.specs.Pairs.{pair_of}
use Rattle.fst_concat.proofs.start.pairs_of.Given as goal

abbrev pub invariant-loop-place : goal.invariant-loop-place
invariant-loop-place l = l.pairs.items ≡ map pair_of (take l.place l.trees)
