use Rattle.std.specs.Prelude.{◌∷◌, Some}
use Rattle.std.proofs.Common.{ap, ◌∙◌}
use Rattle.fst_file.proofs.tree_line.next_side.Goals as goal

pub returns-clause-found : goal.returns-clause-found
returns-clause-found c =
    let read = c.in_ok-place.ensures.found in
    (Some read.0, read.1, c.in_ok-word.ensures.found ∙ ap (λ w. w ∷ c.next_word.new.self) read.2, read.3)
