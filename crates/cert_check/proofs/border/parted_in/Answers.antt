use Rattle.std.proofs.Common.{arith}
use Rattle.cert_check.proofs.lemmas.WordBits.{same_bit}
use Rattle.cert_check.proofs.border.parted_in.Goals as goal

pub returns-clause-others : goal.returns-clause-others
returns-clause-others c i below none =
    grind (arith, c.flags_from-near.ensures i below, same_bit, c.flags_from-far.ensures i below)
