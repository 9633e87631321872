use Rattle.std.proofs.Common.{◌∙◌}
use Rattle.full_tree.specs.LongLaws.{long_names_few-at}
use Rattle.full_tree.proofs.spine.stations.Goals as goal

pub long_stations-requires : goal.long_stations-requires
long_stations-requires c = long_names_few-at c.args.grid.now _ c.args.code.now c.in-Long.root c.in-Long.toward c.in-Long.drops _ c.in-Long.side c.in-Long.tip
    c.in-Long.is (c.as_slice-points.ensures ∙ c.points.ensures) c.as_slice.ensures c.requires
