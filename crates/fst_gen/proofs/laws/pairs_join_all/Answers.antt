use Rattle.fst_gen.proofs.lemmas.Pairs.{trees-join}
use Rattle.fst_gen.proofs.laws.pairs_join_all.Goals as goal

pub returns : goal.returns
returns c = trees-join
