use Rattle.std.proofs.Common.{◌∙◌}
use Rattle.std.proofs.lemmas.List.Filters.{dedup_is}
use Rattle.hanan_grid.proofs.lemmas.Sorting.{ascending_from_sort}
use Rattle.hanan_grid.proofs.lines.lines_of.Goals as goal

pub returns : goal.returns
returns c = dedup_is _ _ _ c.dedup.ensures.filtered ∙ ascending_from_sort c.args.values.items _ c.sort_unstable.ensures.permutation c.sort_unstable.ensures.sorted
