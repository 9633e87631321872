use Rattle.std.specs.Prelude.{length, true}
use Rattle.std.proofs.Common.{ap, arith}
use Rattle.std.proofs.lemmas.Option.{slice_get_within}
use Rattle.graph_reduce.proofs.lemmas.Bounds.{reached_sizes}
use Rattle.graph_reduce.proofs.lemmas.NodeTaken.{edges_joined_at, lengths_fit}
use Rattle.graph_reduce.proofs.taken.join_edges.Goals as goal

pub overflow_add-edge : goal.overflow_add-edge
overflow_add-edge c =
    let order = c.requires.edges.order in
    let fits = lengths_fit c.args.work.now c.args.earlier c.args.later c.edge_at-x.result c.edge_at-y.result
    c.requires.reached (λ same. absurd (omega arith)) c.edge_at-x.ensures c.edge_at-y.ensures in
    omega (arith, fits)

pub join_edges-requires-clause-sizes : goal.join_edges-requires-clause-sizes
join_edges-requires-clause-sizes c = reached_sizes c.args.work.now c.requires.reached

pub drop_node-requires : goal.drop_node-requires
drop_node-requires c =
    let (x, x_at, x_is) = c.edge_at-x.ensures in
    let (y, y_at, y_is) = c.edge_at-y.ensures in
    let within = slice_get_within c.args.work.now.nodes c.args.v true c.requires.node in
    omega (arith, within, ap (λ s. length s.nodes) (c.in_ok-join_edges.ensures x y x_at y_at))

pub returns : goal.returns
returns c = edges_joined_at c.args.work.now c.drop_node.new.self c.args.v c.join_edges.new.self c.args.earlier
    c.args.later
    c.other_end.result c.other_end-2.result c.edge_at-x.result c.edge_at-y.result c.requires.node c.requires.free
    c.requires.edges c.edge_at-x.ensures c.edge_at-y.ensures c.other_end.ensures c.other_end-2.ensures
    c.in_ok-join_edges.ensures c.drop_node.ensures
