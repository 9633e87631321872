use Rattle.fst_prune.proofs.lemmas.Totals.{pruning_keeps_totals}
use Rattle.fst_prune.proofs.laws.pruning_keeps_least_total.Goals as goal

pub returns : goal.returns
returns c = pruning_keeps_totals
