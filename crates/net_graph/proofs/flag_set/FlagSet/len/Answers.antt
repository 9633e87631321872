use Rattle.std.proofs.Common.{sym}
use Rattle.net_graph.proofs.lemmas.FlagWords.{long_view}
use Rattle.net_graph.proofs.flag_set.FlagSet.len.Goals as goal

pub returns : goal.returns
returns c = sym (long_view c.self.inside.words.items c.args.self.now c.self.inside.size c.self.view_is)
