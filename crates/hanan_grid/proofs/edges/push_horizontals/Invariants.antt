use Rattle.std.proofs.Common.{◌≡◌, ◌+◌, ◌-◌, ◌*◌, ◌++◌, length, vec_len, vec_capacity}
use Rattle.hanan_grid.specs.Grid.{horizontal}
use Rattle.hanan_grid.specs.Tables.{table_from}
use Rattle.hanan_grid.proofs.edges.push_horizontals.Given as goal

-- the rows so far are there, and there is room for the others
abbrev pub invariant-loop-row : goal.invariant-loop-row
invariant-loop-row l =
    (l.edges.items ≡ l.initial.edges.items ++ table_from (horizontal l.xs) 0 l.row (length l.xs - 1))
    × (vec_len l.edges ≡ vec_len l.initial.edges + l.row * (length l.xs - 1))
    × (vec_capacity l.edges ≡ vec_capacity l.initial.edges)
