use Rattle.std.specs.Prelude.{[]}
use Rattle.std.proofs.Common.{ap, sym, ◌∙◌}
use Rattle.std.proofs.lemmas.List.{append-nil}
use Rattle.text_in.specs.Lines.{lines_of, text_of}
use Rattle.text_in.specs.LineLaws.{lines_of-text_of}
use Rattle.text_in.proofs.laws.lines_written.Goals as goal

pub returns-clause-more : goal.returns-clause-more
returns-clause-more c = lines_of-text_of

pub returns-clause-alone : goal.returns-clause-alone
returns-clause-alone c = λ lines are. ap lines_of (sym (append-nil (text_of lines))) ∙ lines_of-text_of lines [] are
