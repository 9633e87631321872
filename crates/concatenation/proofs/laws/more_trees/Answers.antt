-- The laws are their lemmas.
use Rattle.concatenation.proofs.lemmas.Sets.{more_trees_join_lem, all_join_lem, totals_rise_lem}
use Rattle.concatenation.proofs.laws.more_trees.Goals as goal

pub returns : goal.returns
returns c = record { more_trees_join = more_trees_join_lem; all_join = all_join_lem; totals_rise = totals_rise_lem }
