use Rattle.std.proofs.Common.{arith}
use Rattle.answer_text.proofs.lemmas.SetDigits.{flag_within}
use Rattle.answer_text.proofs.write.flags_at.Goals as goal

pub returns-then-within-lt64 : goal.returns-then-within-lt64
returns-then-within-lt64 c r low = grind (arith, flag_within)
