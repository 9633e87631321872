-- What isn't text is no number; of a text `parse` gives it, but where it is 0 with a minus.
use Rattle.std.specs.Prelude.{option_and_then}
use Rattle.std.proofs.Common.{ap, sym, arith}
use Rattle.stp_format.specs.Numbers.{spelled_number, coordinate_of, weight_of}
use Rattle.stp_format.proofs.lemmas.Spelled.{unsigned_parsed, no_text_no_number, other_spelled}
use Rattle.stp_format.proofs.number.unsigned_in.Goals as goal

pub returns-in_default : goal.returns-in_default
returns-in_default c = sym (ap (option_and_then weight_of) (no_text_no_number c.args.word.now c.in_default.ensures.cases.0))

pub returns-in-Ok-parse : goal.returns-in-Ok-parse
returns-in-Ok-parse c =
    grind (arith, unsigned_parsed, option_and_then, weight_of, spelled_number, c.in-Ok-parse.ensures.value.0, c.in-Ok.ensures.cases.0)

pub returns-in-Err-2 : goal.returns-in-Err-2
returns-in-Err-2 c =
    grind (arith, option_and_then, coordinate_of, spelled_number, other_spelled, weight_of, c.in-Ok.ensures.cases.0, c.in-Err-2.ensures.value.0, c.if-spells_zero.false, c.spells_zero.ensures.1)
