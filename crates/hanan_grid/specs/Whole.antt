-- What a whole grid keeps of its points.
use Rattle.std.specs.Prelude.{◌≡◌, ◌<◌, ◌≤◌, ℤ, List, length}
use Rattle.points_in.specs.declared.point.Point.{Point}
use Rattle.net_graph.specs.Graph.{Graph, IsGraph}
use Rattle.hanan_grid.specs.Grid.{xs_of, ys_of, hanan_grid_of}

-- The lines and the graph are those of the points, of which there are 1 to 50.
pub record IsGridOf (ps : List Point) (xs ys : List ℤ) (g : Graph) : Type 0 where
  pub some : 0 < length ps
  pub few : length ps ≤ 50
  pub columns : xs ≡ xs_of ps
  pub rows : ys ≡ ys_of ps
  pub graph : g ≡ hanan_grid_of ps
  pub sound : IsGraph g
