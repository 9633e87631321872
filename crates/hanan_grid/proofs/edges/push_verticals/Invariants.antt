use Rattle.std.proofs.Common.{◌≡◌, ◌+◌, ◌*◌, ◌++◌, length, vec_len, vec_capacity}
use Rattle.hanan_grid.specs.Grid.{vertical}
use Rattle.hanan_grid.specs.Tables.{table_from}
use Rattle.hanan_grid.proofs.edges.push_verticals.Given as goal

-- the rows so far are there
abbrev pub invariant-loop-row : goal.invariant-loop-row
invariant-loop-row l =
    (l.edges.items ≡ l.initial.edges.items ++ table_from (vertical (length l.xs) l.ys) 0 l.row (length l.xs))
    × (vec_len l.edges ≡ vec_len l.initial.edges + l.row * length l.xs)
    × (vec_capacity l.edges ≡ vec_capacity l.initial.edges)
