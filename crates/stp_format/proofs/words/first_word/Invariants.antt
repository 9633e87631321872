use Rattle.std.proofs.Common.{◌≡◌, length}
use Rattle.stp_format.specs.Lines.{words_of}
use Rattle.stp_format.proofs.words.first_word.Given as goal

abbrev pub invariant-loop-word : goal.invariant-loop-word
invariant-loop-word l = words_of l.line ≡ words_of l.left

abbrev pub decreases-loop-word : goal.decreases-loop-word
decreases-loop-word l = length l.left
