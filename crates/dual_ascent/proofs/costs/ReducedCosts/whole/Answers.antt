use Rattle.std.proofs.Common.{◌∙◌, []}
use Rattle.net_graph.specs.Decision.{states_of}
use Rattle.dual_ascent.proofs.lemmas.CostLemmas.{map-zip-left_of}
use Rattle.dual_ascent.proofs.costs.ReducedCosts.whole.Goals as goal

pub returns : goal.returns
returns c = rw (c.edges.ensures.edges, c.deref.ensures.value, c.in_ok-states.ensures) at c.in_ok-edges.ensures ∙ map-zip-left_of c.args.g.now.edges (states_of c.args.g.now c.args.d.now) []
