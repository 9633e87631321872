use Rattle.std.proofs.Common.{◌≡◌, ◌*◌, ◌≤◌, length, vec_len, vec_capacity}
use Rattle.net_graph.proofs.lemmas.ArcLemmas.{AreArcsBelow}
use Rattle.net_graph.proofs.arcs.both_ways.Given as goal

abbrev pub invariant-loop-n : goal.invariant-loop-n
invariant-loop-n l = AreArcsBelow l.edges l.n l.arcs.items × (vec_len l.arcs ≡ 2 * l.n) × (2 * length l.edges ≤ vec_capacity l.arcs)
