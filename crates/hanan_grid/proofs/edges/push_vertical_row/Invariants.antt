use Rattle.std.proofs.Common.{◌≡◌, ◌+◌, ◌++◌, map, vec_len, vec_capacity}
use Rattle.std.specs.List.{range_with_len}
use Rattle.hanan_grid.specs.Grid.{vertical}
use Rattle.hanan_grid.proofs.edges.push_vertical_row.Given as goal

-- the row's edges so far are there
abbrev pub invariant-loop-column : goal.invariant-loop-column
invariant-loop-column l =
    (l.edges.items ≡ l.initial.edges.items ++ map (vertical l.columns l.ys l.row) (range_with_len 0 l.column))
    × (vec_len l.edges ≡ vec_len l.initial.edges + l.column)
    × (vec_capacity l.edges ≡ vec_capacity l.initial.edges)
