use Rattle.std.proofs.Common.{rules, ◌≡◌}
use Rattle.std.specs.Ordering.{is_lt}
use Rattle.std.proofs.lemmas.List.Sorted.{ranks_by, answers_always}
use Rattle.full_tree.specs.Order.{tree_cmp}
use Rattle.full_tree.specs.OrderLaws.{tree_cmp_total}
use Rattle.fst_gen.proofs.listing.put_in_order.Goals as goal

pub returns-clause-sorted : goal.returns-clause-sorted
returns-clause-sorted c = c.sort_unstable_by.ensures.sorted (λ a b. is_lt (tree_cmp a b)) (ranks_by tree_cmp_total (λ a. a))
    (answers_always _ (λ a r. is_lt r ≡ is_lt (tree_cmp a.0.now a.1.0.now)) _ (λ f a r f' called. search rules))
