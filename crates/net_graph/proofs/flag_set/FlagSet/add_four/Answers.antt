use Rattle.net_graph.proofs.lemmas.FlagFours.{flags_after_four}
use Rattle.std.proofs.Common.{arith}
use Rattle.net_graph.proofs.lemmas.FlagWords.{long_view}
use Rattle.net_graph.proofs.flag_set.FlagSet.add_four.Goals as goal

pub index_mut-requires : goal.index_mut-requires
index_mut-requires c =
    grind (arith, long_view c.self.inside.words.items c.args.self.now c.self.inside.size c.self.view_is)

pub returns-clause-flags : goal.returns-clause-flags
returns-clause-flags c n =
    flags_after_four c.self.inside.words.items c.args.self.now c.self.inside.size c.args.place c.args.value c.mirrored.result c.index_mut.result.now
    c.self.view_is c.self.invariant c.requires.within c.mirrored.ensures.small c.mirrored.ensures.flags c.requires.told c.index_mut.ensures.value n
