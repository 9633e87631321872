use Rattle.std.proofs.Common.{arith}
use Rattle.full_tree.proofs.lemmas.Words.{IsWordOf-more}
use Rattle.full_tree.proofs.word.word_of.Goals as goal

pub loop-place-preserved : goal.loop-place-preserved
loop-place-preserved c = grind (arith, IsWordOf-more)
