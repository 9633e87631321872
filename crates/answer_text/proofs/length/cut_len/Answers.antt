use Rattle.std.proofs.Common.{length, arith}
use Rattle.answer_text.specs.SetLaws.{length-set_text, digit_count}
use Rattle.answer_text.proofs.lemmas.Lengths.{length-cut}
use Rattle.answer_text.proofs.length.cut_len.Goals as goal

pub returns-clause-length : goal.returns-clause-length
returns-clause-length c =
    grind (arith, digit_count (length (c.args.cut.now).members), length-set_text (c.args.cut.now).members, length-cut (c.args.cut.now))
