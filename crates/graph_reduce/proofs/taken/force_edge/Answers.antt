use Rattle.std.specs.Prelude.{length}
use Rattle.std.proofs.Common.{ap, arith}
use Rattle.graph_reduce.proofs.lemmas.Bounds.{reached_sizes}
use Rattle.graph_reduce.proofs.lemmas.NodeTaken.{edge_forced_at, length_fits, terminal_below}
use Rattle.graph_reduce.proofs.taken.force_edge.Goals as goal

pub force_edge-requires-clause-fits : goal.force_edge-requires-clause-fits
force_edge-requires-clause-fits c =
    grind (arith, length_fits c.args.work.now c.args.place c.edge_at-x.result c.requires.reached c.edge_at-x.ensures)

pub force_edge-requires-clause-sizes : goal.force_edge-requires-clause-sizes
force_edge-requires-clause-sizes c = reached_sizes c.args.work.now c.requires.reached

pub drop_node-requires : goal.drop_node-requires
drop_node-requires c =
    let (x, x_at, x_is) = c.edge_at-x.ensures in
    let below = terminal_below c.args.work.now c.args.v c.requires.reached c.requires.terminal in
    omega (
      arith,
      below,
      ap (λ s. length s.nodes) (c.force_edge.ensures x x_at),
      ap (λ s. length s.nodes) c.move_terminal.ensures,
    )

pub returns : goal.returns
returns c = edge_forced_at c.args.work.now c.drop_node.new.self c.args.v c.force_edge.new.self c.move_terminal.new.self
    c.args.place c.other_end-other.result c.edge_at-x.result c.requires.terminal c.requires.edge c.edge_at-x.ensures
    c.other_end-other.ensures c.force_edge.ensures c.move_terminal.ensures c.drop_node.ensures
