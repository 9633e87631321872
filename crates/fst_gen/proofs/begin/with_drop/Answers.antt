use Rattle.std.proofs.Common.{◌∙◌, arith, length-append, ◌∷◌, []}
use Rattle.fst_gen.proofs.lemmas.Prefixes.{keeps_longer, prefix_stations-in, prefix_stations-length, keeps_moved}
use Rattle.fst_gen.proofs.begin.with_drop.Goals as goal

pub keeps_up_to-requires-clause-members : goal.keeps_up_to-requires-clause-members
keeps_up_to-requires-clause-members c = prefix_stations-in c.args.points.now c.args.table.now c.lengthened-longer.result c.as_slice.result.now
    c.lengthened-longer.ensures.is_prefix c.requires.points c.as_slice.ensures.stations

pub keeps_up_to-requires-clause-last : goal.keeps_up_to-requires-clause-last
keeps_up_to-requires-clause-last c =
    grind (arith, prefix_stations-length c.args.points.now c.lengthened-longer.result c.as_slice.result.now c.lengthened-longer.ensures.is_prefix c.as_slice.ensures.stations, length-append c.args.prefix.now.drops (c.args.drop ∷ []))

pub returns-then-not-keeps_up_to : goal.returns-then-not-keeps_up_to
returns-then-not-keeps_up_to c = record {
  some = tt;
  none = λ may. let no = c.if-not-keeps_up_to.ensures.1 (keeps_moved c.args.points.now c.args.table.now c.as_slice.result.now _ _ _
      c.requires.points (c.as_slice.ensures.stations ∙ keeps_longer c.args.points.now c.args.prefix.now c.lengthened-longer.result c.args.drop c.lengthened-longer.ensures)
      (omega (arith, c.len.ensures.value)) may.keeps) in cc;
}
