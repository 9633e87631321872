use Rattle.std.proofs.Common.{arith}
use Rattle.fst_gen.proofs.lemmas.Prefixes.{IsLongerBy-made, prefix_stations-length}
use Rattle.fst_gen.proofs.begin.lengthened.Goals as goal

pub push-requires : goal.push-requires
push-requires c =
    grind (arith, prefix_stations-length c.args.points.now c.args.prefix.now c.copy-stations.result c.requires.prefix c.copy-stations.ensures)

pub returns : goal.returns
returns c = IsLongerBy-made c.args.points.now c.args.prefix.now c.args.drop c.foot-at.result c.point_at.result c.gap.result c.gap-2.result
    c.copy-stations.result c.push.new.self c.copy-drops.result c.push-2.new.self
    c.requires.prefix c.requires.room c.requires.drop c.foot-at.ensures c.gap.ensures.value c.point_at.ensures
    c.gap-2.ensures.value c.copy-stations.ensures c.push.ensures c.copy-drops.ensures c.push-2.ensures
