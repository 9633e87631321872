-- Why there is no grid of a list of points.
use Rattle.std.specs.Prelude.{◌≡◌, ◌≤◌, ◌^◌, List}
use Rattle.points_in.specs.declared.point.Point.{Point}
use Rattle.net_graph.specs.Graph.{total_of}
use Rattle.net_graph.specs.declared.graph.GraphFault.{GraphFault}
use Rattle.net_graph.specs.declared.graph.GraphFault.TheVariants as graph_fault
use Rattle.hanan_grid.specs.declared.fault.GridFault.{GridFault}
use Rattle.hanan_grid.specs.declared.fault.GridFault.TheVariants.{TooLong, Memory}
use Rattle.hanan_grid.specs.Grid.{hanan_grid_of}

-- The grid's total is above 2^63 - 1, and is named; want of memory has no cause in the points.
abbrev pub IsFaultOf : List Point → GridFault → Type 0
IsFaultOf ps (TooLong total) = (total ≡ total_of (hanan_grid_of ps)) × (2 ^ 63 ≤ total)
IsFaultOf ps (Memory e) = Unit {0}

-- the fault of the grid is this fault of its graph
abbrev pub ComesFrom : GraphFault → GridFault → Type 0
ComesFrom fault (TooLong total) = fault ≡ graph_fault.TooLong total
ComesFrom fault (Memory e) = Unit {0}

-- of the faults of a graph, those that a grid may have
abbrev pub IsTotalOrMemory : GraphFault → Type 0
IsTotalOrMemory (graph_fault.TooLong total) = Unit {0}
IsTotalOrMemory (graph_fault.Memory e) = Unit {0}
IsTotalOrMemory _ = ⊥
