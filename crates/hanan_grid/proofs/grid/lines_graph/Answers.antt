use Rattle.hanan_grid.specs.Grid.{xs_of, ys_of}
use Rattle.std.proofs.Common.{arith}
use Rattle.hanan_grid.specs.GridLaws.{length-xs_of-le, length-ys_of-le, length-xs_of-positive, length-ys_of-positive, IsRising-xs_of, IsRising-ys_of, few_crossings_of, few_edges, length-edges_of_lines}
use Rattle.hanan_grid.proofs.lemmas.GraphFaults.{known_fault_of_grid, graph_from_parts}
use Rattle.hanan_grid.proofs.grid.lines_graph.Goals as goal

pub line_edges-requires-clause-columns : goal.line_edges-requires-clause-columns
line_edges-requires-clause-columns c = rw c.requires.columns (length-xs_of-positive c.args.points.now c.requires.some)

pub line_edges-requires-clause-rows : goal.line_edges-requires-clause-rows
line_edges-requires-clause-rows c = rw c.requires.rows (length-ys_of-positive c.args.points.now c.requires.some)

pub line_edges-requires-clause-few_columns : goal.line_edges-requires-clause-few_columns
line_edges-requires-clause-few_columns c = rw c.requires.columns (omega (arith, length-xs_of-le c.args.points.now))

pub line_edges-requires-clause-few_rows : goal.line_edges-requires-clause-few_rows
line_edges-requires-clause-few_rows c = rw c.requires.rows (omega (arith, length-ys_of-le c.args.points.now))

pub point_vertices-requires-clause-rising_columns : goal.point_vertices-requires-clause-rising_columns
point_vertices-requires-clause-rising_columns c = rw c.requires.columns (IsRising-xs_of c.args.points.now)

pub point_vertices-requires-clause-rising_rows : goal.point_vertices-requires-clause-rising_rows
point_vertices-requires-clause-rising_rows c = rw c.requires.rows (IsRising-ys_of c.args.points.now)

pub point_vertices-requires-clause-few_columns : goal.point_vertices-requires-clause-few_columns
point_vertices-requires-clause-few_columns c = rw c.requires.columns (omega (arith, length-xs_of-le c.args.points.now))

pub point_vertices-requires-clause-few_rows : goal.point_vertices-requires-clause-few_rows
point_vertices-requires-clause-few_rows c = rw c.requires.rows (omega (arith, length-ys_of-le c.args.points.now))

pub overflow_cast-vertices : goal.overflow_cast-vertices
overflow_cast-vertices c = rw c.requires.columns (omega (arith, length-xs_of-le c.args.points.now))

pub overflow_cast-vertices-2 : goal.overflow_cast-vertices-2
overflow_cast-vertices-2 c = rw c.requires.rows (omega (arith, length-ys_of-le c.args.points.now))

pub overflow_mul-vertices : goal.overflow_mul-vertices
overflow_mul-vertices c = rw (c.requires.columns, c.requires.rows) (omega (arith, few_crossings_of c.args.points.now c.requires.few))

pub new-requires-clause-few_vertices : goal.new-requires-clause-few_vertices
new-requires-clause-few_vertices c = rw (c.requires.columns, c.requires.rows) (few_crossings_of c.args.points.now c.requires.few)

pub new-requires-clause-few_edges : goal.new-requires-clause-few_edges
new-requires-clause-few_edges c =
    rw (c.from_vec-edges.ensures, c.in_ok-edges.ensures, c.requires.columns, c.requires.rows) (grind (arith, length-edges_of_lines (xs_of c.args.points.now) (ys_of c.args.points.now), few_edges, length-xs_of-le c.args.points.now, length-ys_of-le c.args.points.now))

pub grid_fault-requires : goal.grid_fault-requires
grid_fault-requires c = grind (arith, graph_from_parts, known_fault_of_grid)
