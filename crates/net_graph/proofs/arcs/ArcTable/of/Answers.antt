use Rattle.std.proofs.Common.{rules}
use Rattle.std.proofs.lemmas.List.Sorted.{IsNonDecreasingBy-from_sort_by_key}
use Rattle.net_graph.proofs.lemmas.ArcLemmas.{AreArcsOf-permutation}
use Rattle.net_graph.proofs.arcs.ArcTable.of.Goals as goal

pub starts_of-requires-clause-sorted : goal.starts_of-requires-clause-sorted
starts_of-requires-clause-sorted c = rw c.deref.ensures.value (IsNonDecreasingBy-from_sort_by_key (λ arc. arc.from) _ c.sort_unstable_by_key.ensures.sorted (λ a r q k. search rules))

pub returns-clause-arcs : goal.returns-clause-arcs
returns-clause-arcs c = AreArcsOf-permutation _ _ _ c.sort_unstable_by_key.ensures.permutation c.in_ok-arcs.ensures.arcs
