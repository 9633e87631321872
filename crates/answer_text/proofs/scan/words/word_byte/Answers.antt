use Rattle.std.proofs.Common.{arith}
use Rattle.answer_text.proofs.lemmas.ScanWords.{leads-last}
use Rattle.answer_text.proofs.scan.words.word_byte.Goals as goal

pub returns-else-at-bytes-2-clause-leads : goal.returns-else-at-bytes-2-clause-leads
returns-else-at-bytes-2-clause-leads c = grind (arith, leads-last)

pub returns-else-at-bytes-2-clause-sound : goal.returns-else-at-bytes-2-clause-sound
returns-else-at-bytes-2-clause-sound c = λ k sound. rw c.behind.ensures (grind arith)
