use Rattle.std.proofs.Common.{arith}
use Rattle.cert_check.proofs.lemmas.WordBits.{flag_in_first, flag_in_two}
use Rattle.cert_check.proofs.border.flags_from.Goals as goal

pub returns-then-shift-count-le64 : goal.returns-then-shift-count-le64
returns-then-shift-count-le64 c i below =
    flag_in_first c.args.members.now c.args.vertex i c.word.result c.word.ensures (omega arith) (omega arith)

pub returns : goal.returns
returns c i below = grind (arith, flag_in_two)
