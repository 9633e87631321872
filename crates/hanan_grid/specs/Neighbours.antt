-- Which crossings stand beside each other.
use Rattle.std.specs.Prelude.{◌+◌, ◌≡◌}
use Rattle.hanan_grid.specs.declared.place.Place.{Place}

-- p is the next crossing to the right of q
pub record IsRightOf (p q : Place) : Type 0 where
  pub column : p.column ≡ q.column + 1
  pub row : p.row ≡ q.row

-- p is the next crossing above q
pub record IsAbove (p q : Place) : Type 0 where
  pub column : p.column ≡ q.column
  pub row : p.row ≡ q.row + 1
