use Rattle.spanning.specs.TightLaws.{tight_pairs-join}
use Rattle.spanning.proofs.laws.tight_pairs_join.Goals as goal

pub returns : goal.returns
returns c = tight_pairs-join
