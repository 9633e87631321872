use Rattle.std.proofs.Common.{arith}
use Rattle.answer_text.proofs.lemmas.ScanClose.{closes-leaf}
use Rattle.answer_text.proofs.scan.close.close_leaf.Goals as goal

pub returns-clause-closes : goal.returns-clause-closes
returns-clause-closes c = grind (arith, closes-leaf)
