use Rattle.std.proofs.Common.{◌+◌, ◌/◌, ap, ◌∙◌, arith}
use Rattle.answer_text.specs.SetLaws.{digit_count}
use Rattle.answer_text.proofs.lemmas.ScanClose.{closes-set, no_line-set}
use Rattle.answer_text.proofs.scan.close.close_set.Goals as goal

pub returns-then-place-div_ceil-clause-none : goal.returns-then-place-div_ceil-clause-none
returns-then-place-div_ceil-clause-none c = λ sound.
    let digits = c.div_ceil.ensures ∙ digit_count c.len.result ∙ ap (λ n. (n + 3) / 4) c.len.ensures in
    let short = c.if-place-div_ceil.true in
    no_line-set c.args.kept.now c.args.place (omega arith)

pub returns-clause-closes : goal.returns-clause-closes
returns-clause-closes c = grind (arith, digit_count c.len.result, closes-set)
