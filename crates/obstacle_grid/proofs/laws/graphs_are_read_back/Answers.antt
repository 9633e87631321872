-- The laws are their lemmas.
use Rattle.obstacle_grid.proofs.lemmas.ObstaclesBack.{obstacles_are_read_back_lem}
use Rattle.obstacle_grid.proofs.lemmas.ReadBack.{graphs_are_read_back_lem}
use Rattle.obstacle_grid.proofs.laws.graphs_are_read_back.Goals as goal

pub returns : goal.returns
returns c = record { graphs = graphs_are_read_back_lem; obstacles = obstacles_are_read_back_lem }
