use Rattle.std.proofs.Common.{arith}
use Rattle.points_in.proofs.lemmas.Words.{words_at-blank}
use Rattle.points_in.proofs.read.next_word.Goals as goal

-- a blank is passed over
pub loop-start-preserved : goal.loop-start-preserved
loop-start-preserved c = grind (arith, words_at-blank)
