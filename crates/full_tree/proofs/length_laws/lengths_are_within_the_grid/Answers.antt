use Rattle.full_tree.proofs.lemmas.Lengths.{code_length-le}
use Rattle.full_tree.proofs.length_laws.lengths_are_within_the_grid.Goals as goal

pub returns : goal.returns
returns c = code_length-le
