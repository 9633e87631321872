-- What isn't text is no number, and of a text `parse` gives it.
use Rattle.std.specs.Prelude.{option_and_then}
use Rattle.std.proofs.Common.{ap, sym, arith}
use Rattle.stp_format.specs.Numbers.{spelled_number, coordinate_of}
use Rattle.stp_format.proofs.lemmas.Spelled.{signed_parsed, no_text_no_number}
use Rattle.stp_format.proofs.number.signed_in.Goals as goal

pub returns-in_default : goal.returns-in_default
returns-in_default c = sym (ap (option_and_then coordinate_of) (no_text_no_number c.args.word.now c.in_default.ensures.cases.0))

pub returns : goal.returns
returns c =
    grind (arith, signed_parsed c.in-Ok.text.now c.parse.result c.parse.ensures.value.0, option_and_then, coordinate_of, spelled_number, c.ok.ensures.value, c.in-Ok.ensures.cases.0)
