use Rattle.std.proofs.Common.{rules}
use Rattle.net_graph.proofs.lemmas.FlagWords.{flags-none}
use Rattle.net_graph.proofs.flag_set.FlagSet.empty.Goals as goal

pub returns : goal.returns
returns c = flags-none c.in_ok-words.words.items c.div_ceil.result c.args.size (search rules)
