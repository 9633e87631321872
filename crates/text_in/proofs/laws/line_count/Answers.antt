use Rattle.std.specs.Prelude.{◌==◌}
use Rattle.std.proofs.Common.{◌∙◌}
use Rattle.std.specs.List.{slice_split}
use Rattle.std.proofs.lemmas.List.{length-map}
use Rattle.std.proofs.lemmas.List.Splits.{length-slice_split}
use Rattle.text_in.specs.Lines.{words_of}
use Rattle.text_in.proofs.laws.line_count.Goals as goal

pub returns : goal.returns
returns c = λ text. length-map (slice_split (λ b. b == 10) text) words_of ∙ length-slice_split (λ b. b == 10) text
