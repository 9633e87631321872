use Rattle.std.proofs.Common.{arith}
use Rattle.answer_text.proofs.lemmas.ScanClose.{no_line-other}
use Rattle.answer_text.proofs.scan.close.close_line.Goals as goal

pub returns-in_default : goal.returns-in_default
returns-in_default c =
    grind (arith, no_line-other c.args.kept.now c.args.scan c.in_default.not-Number c.in_default.not-Set c.in_default.not-LineEnd)
