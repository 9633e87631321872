use Rattle.full_tree.proofs.lemmas.Spine.{end_stations-room}
use Rattle.full_tree.proofs.spine.long_stations.Goals as goal

pub push_end-requires-clause-room : goal.push_end-requires-clause-room
push_end-requires-clause-room c = end_stations-room c.args.points.now c.args.root c.args.toward c.args.drops.now c.args.side c.args.tip
    _ _ c.requires c.empty-stations.ensures c.push_drops-from.ensures.stations
