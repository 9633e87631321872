use Rattle.std.proofs.Common.{take}
use Rattle.full_tree.specs.Word.{IsWordOf}
use Rattle.full_tree.proofs.word.word_of.Given as goal

abbrev pub invariant-loop-place : goal.invariant-loop-place
invariant-loop-place l = IsWordOf l.word (take l.place-index l.places)
