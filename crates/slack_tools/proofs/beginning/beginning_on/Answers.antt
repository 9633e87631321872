-- All edges of the grid join its terminals, and the one leaf's packing is feasible where nothing is decided.
use Rattle.std.proofs.Common.{◌≤◌, subst, sym, arith}
use Rattle.cert_tree.specs.PreorderLaws.{some_leaf}
use Rattle.net_graph.specs.Network.{IsNetwork}
use Rattle.net_graph.specs.Decision.{nothing_decided}
use Rattle.net_graph.specs.Packing.{IsFeasible}
use Rattle.cert_tree.specs.Preorder.{split_count}
use Rattle.branch.specs.States.{IsNetworkOf}
use Rattle.graph_solve.specs.Task.{all_edges}
use Rattle.hanan_grid.specs.Grid.{hanan_grid_of}
use Rattle.slack_tools.proofs.BeginningLaws.{leaf_feasible}
use Rattle.slack_tools.proofs.GridLemmas.{IsNetwork-grid}
use Rattle.slack_tools.proofs.beginning.beginning_on.Goals as goal

pub first_network-requires : goal.first_network-requires
first_network-requires c =
    subst (λ g. IsNetwork g (all_edges g)) (sym c.graph-graph.ensures.graph)
    (IsNetwork-grid c.args.grid.now c.graph-graph.ensures.sound)

pub searched_on-requires : goal.searched_on-requires
searched_on-requires c =
    subst (λ g. IsNetworkOf g c.in_ok-first.first) c.graph-graph.ensures.graph (record {
      size = c.in_ok-first.ensures.size;
      joins = c.in_ok-first.ensures.network;
    })

pub packing-requires : goal.packing-requires
packing-requires c = some_leaf c.in_ok-solved.solved.tree

pub at-requires : goal.at-requires
at-requires c =
    let grid = hanan_grid_of c.args.grid.now in
    let tree = c.in_ok-solved.solved.tree in
    let few = c.in_ok-solved.ensures.searched.few in
    let zero = c.without_openings.ensures in
    let none : split_count tree ≤ 0 = omega (arith, few, zero) in
    let feasible =
    leaf_feasible grid tree c.packing.result.now none c.in_ok-solved.ensures.searched.valid c.packing.ensures in
    subst (λ g. IsFeasible g (nothing_decided g) c.in_ok-packing.packing) (sym c.graph-graph.ensures.graph)
    (subst (λ p. IsFeasible grid (nothing_decided grid) p) (sym c.in_ok-packing.ensures) feasible)
