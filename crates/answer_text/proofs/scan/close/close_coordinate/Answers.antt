use Rattle.std.proofs.Common.{arith}
use Rattle.answer_text.proofs.lemmas.NamesClosed.{no_line-corner, no_line-vertex}
use Rattle.answer_text.proofs.lemmas.WordLemmas.{none_then}
use Rattle.answer_text.proofs.scan.close.close_coordinate.Goals as goal

pub returns-in_default : goal.returns-in_default
returns-in_default c =
    grind (arith, no_line-corner c.args.kept.now c.args.corner c.args.minus c.args.value c.in_default.not-Y2 c.in_default.not-Y)

pub returns-in_ok-with_sign-in-Y-clause-none : goal.returns-in_ok-with_sign-in-Y-clause-none
returns-in_ok-with_sign-in-Y-clause-none c =
    none_then c.close_point.result c.close_point.ensures.none (λ none. no_line-vertex c.args.kept.now c.args.corner c.args.minus c.args.value c.in-Y.is none)

pub returns-in_ok-with_sign-in-Y2-clause-none : goal.returns-in_ok-with_sign-in-Y2-clause-none
returns-in_ok-with_sign-in-Y2-clause-none c =
    none_then c.close_name.result c.close_name.ensures.none (λ none. grind arith)
