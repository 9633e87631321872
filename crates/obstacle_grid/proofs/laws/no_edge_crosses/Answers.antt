-- The laws are their lemmas.
use Rattle.obstacle_grid.proofs.lemmas.Crossings.{no_edge_crosses_lem, others_are_left_lem}
use Rattle.obstacle_grid.proofs.lemmas.Edges.{edges_run_straight_lem}
use Rattle.obstacle_grid.proofs.laws.no_edge_crosses.Goals as goal

pub returns : goal.returns
returns c = record { straight = edges_run_straight_lem; none = no_edge_crosses_lem; others = others_are_left_lem }
