use Rattle.net_graph.proofs.lemmas.NetworkLemmas.{IsNetwork-iff_marks}
use Rattle.net_graph.proofs.network.joins.Goals as goal

pub returns : goal.returns
returns c = IsNetwork-iff_marks c.args.graph.now c.args.set.now c.in_ok-marks.marks c.terminals.result.now c.has_all.result c.terminals.ensures.terminals c.in_ok-marks.ensures.reached c.has_all.ensures
