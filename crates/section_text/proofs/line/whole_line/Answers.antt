-- Where no whole line is left, the text ends too soon.
use Rattle.std.proofs.Common.{arith}
use Rattle.section_text.proofs.Steps.{ends_short}
use Rattle.section_text.proofs.line.whole_line.Goals as goal

pub returns-in-None-clause-ended : goal.returns-in-None-clause-ended
returns-in-None-clause-ended g c = grind (arith, ends_short)
