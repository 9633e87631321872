use Rattle.std.proofs.lemmas.List.{get_or_read}
use Rattle.std.proofs.Common.{arith}
use Rattle.net_graph.proofs.lemmas.FlagWords.{long_view, flag_at}
use Rattle.net_graph.proofs.flag_set.FlagSet.word.Goals as goal

pub index-requires : goal.index-requires
index-requires c = grind (arith, long_view c.self.inside.words.items c.args.self.now c.self.inside.size c.self.view_is)

pub returns : goal.returns
returns c r low below =
    grind (arith, long_view c.self.inside.words.items c.args.self.now c.self.inside.size c.self.view_is, get_or_read, flag_at)
