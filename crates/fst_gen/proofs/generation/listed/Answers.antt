use Rattle.std.proofs.Common.{subst, arith}
use Rattle.points_in.specs.Terminals.{AreDistinct}
use Rattle.fst_gen.proofs.lemmas.Listing.{few_of_values, listed_trees, listed_few, listed_join, listed_pairs_join, listed_not_many}
use Rattle.fst_gen.proofs.generation.listed.Goals as goal

pub gathered-requires : goal.gathered-requires
gathered-requires c = few_of_values c.args.grid.now c.args.most c.args.trees c.requires.store c.len-kept.ensures.ordered

pub returns-clause-trees : goal.returns-clause-trees
returns-clause-trees c =
    grind (arith, listed_trees c.args.grid.now c.args.most c.args.trees c.requires.store c.len-kept.ensures.ordered c.in_ok-list.list.items c.put_in_order.new.list.items c.in_ok-list.ensures c.put_in_order.ensures.permutation c.put_in_order.ensures.sorted c.freed.result c.freed.ensures c.requires.covers)

pub returns-clause-few : goal.returns-clause-few
returns-clause-few c =
    grind (arith, listed_few c.args.grid.now c.args.most c.args.trees c.requires.store c.len-kept.ensures.ordered c.in_ok-list.list.items c.put_in_order.new.list.items c.in_ok-list.ensures c.put_in_order.ensures.permutation c.put_in_order.ensures.sorted c.freed.result c.freed.ensures)

pub returns-clause-joins : goal.returns-clause-joins
returns-clause-joins c = listed_join c.args.grid.now c.args.most c.freed.result (returns-clause-trees c) (subst AreDistinct c.points.ensures c.len-points.ensures.distinct) c.requires.least

pub returns-clause-pairs_join : goal.returns-clause-pairs_join
returns-clause-pairs_join c = listed_pairs_join c.args.grid.now c.args.most c.freed.result (returns-clause-trees c) (subst AreDistinct c.points.ensures c.len-points.ensures.distinct) c.requires.least

pub returns-clause-not_many : goal.returns-clause-not_many
returns-clause-not_many c = listed_not_many c.args.grid.now c.args.most c.freed.result (returns-clause-trees c) (returns-clause-few c)
