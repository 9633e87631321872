use Rattle.std.proofs.Common.{arith}
use Rattle.std.specs.Int.{w64}
use Rattle.std.proofs.lemmas.Int.{to_z-of_z}
use Rattle.answer_text.proofs.lemmas.NamesClosed.{closes-ends}
use Rattle.answer_text.proofs.lemmas.WordLemmas.{some_then}
use Rattle.answer_text.proofs.scan.close.close_name.Goals as goal

pub returns-clause-closes : goal.returns-clause-closes
returns-clause-closes c = grind (arith, some_then, closes-ends, to_z-of_z w64 c.args.last c.ranges.last)
