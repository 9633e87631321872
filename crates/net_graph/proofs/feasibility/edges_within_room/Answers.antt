use Rattle.std.proofs.Common.{refl, arith}
use Rattle.std.proofs.lemmas.Option.{slice_get_within}
use Rattle.net_graph.proofs.feasibility.edges_within_room.Goals as goal

pub returns-then-not-edge_within_room : goal.returns-then-not-edge_within_room
returns-then-not-edge_within_room c = (
  λ said. absurd cc,
  λ all. c.if-not-edge_within_room.ensures.1 (all c.loop-n.n),
)

pub returns : goal.returns
returns c = (
  λ _ n e state at decided. c.loop-n.invariant n (omega (arith, slice_get_within c.args.g.now.edges n e at, c.edge_count-n-end.ensures.count)) e state at decided,
  λ _. refl,
)
