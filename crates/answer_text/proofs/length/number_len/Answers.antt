use Rattle.std.proofs.Common.{arith}
use Rattle.std.proofs.lemmas.Fmt.{length-decimal-le}
use Rattle.answer_text.proofs.length.number_len.Goals as goal

pub returns-clause-shorter : goal.returns-clause-shorter
returns-clause-shorter c = grind (arith, length-decimal-le)
