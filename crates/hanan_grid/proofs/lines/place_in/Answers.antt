use Rattle.std.proofs.Common.{rules}
use Rattle.std.specs.Prelude.{int_lt}
use Rattle.std.proofs.lemmas.List.Sorted.{IsPartitionPoint-from_clause}
use Rattle.hanan_grid.proofs.lemmas.Sorting.{parted_by, place_of_from_parted}
use Rattle.hanan_grid.proofs.lines.place_in.Goals as goal

pub returns-clause-place : goal.returns-clause-place
returns-clause-place c =
    let parted = parted_by c.args.lines.now c.args.value c.requires.rising in
    let point = IsPartitionPoint-from_clause (λ y. int_lt y c.args.value) _ _ c.partition_point.ensures.partitioned parted (λ a r q k. search rules) in
    place_of_from_parted c.args.lines.now c.args.value c.partition_point.result c.partition_point.ensures.bound point
