use Rattle.std.proofs.Common.{rules}
use Rattle.net_graph.proofs.lemmas.FlagWords.{long_view, flags-none}
use Rattle.net_graph.proofs.flag_set.FlagSet.clear.Goals as goal

pub returns : goal.returns
returns c = rw (long_view c.self.inside.words.items c.args.self.now c.self.inside.size c.self.view_is) (flags-none c.fill.new.self.items c.self.inside.words.len c.self.inside.size (search rules))
