use Rattle.std.specs.Prelude.{length}
use Rattle.fst_file.proofs.lemmas.Drops.{DropsSoFar}
use Rattle.fst_file.proofs.tree_line.drops_in.Given as goal

abbrev pub invariant-loop-words : goal.invariant-loop-words
invariant-loop-words l = DropsSoFar l.fn.words l.words l.drops

abbrev pub decreases-loop-words : goal.decreases-loop-words
decreases-loop-words l = length l.words
