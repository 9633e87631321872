use Rattle.std.proofs.Common.{rules, ltb}
use Rattle.std.proofs.lemmas.List.Sorted.{IsPartitionedBy-ltb, IsPartitionPoint-from_clause}
use Rattle.net_graph.proofs.lemmas.ArcLemmas.{IsSplitAt-from_point}
use Rattle.net_graph.proofs.arcs.start_of.Goals as goal

pub returns : goal.returns
returns c = IsSplitAt-from_point _ _ _ c.partition_point.ensures.bound
    (IsPartitionPoint-from_clause (λ arc. ltb arc.from c.args.vertex) _ _ c.partition_point.ensures.partitioned (IsPartitionedBy-ltb (λ arc. arc.from) _ c.args.vertex c.requires.sorted) (λ a r q k. search rules))
