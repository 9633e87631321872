-- How a row lends its numbers.
use Rattle.std.specs.Prelude.{ℕ, List, take, drop, length, ◌++◌}
use Rattle.std.specs.Borrow.{Lends, MutBor, Fml, Array, u64}
use Rattle.lists.specs.contracts.row.Row.{the_row}

-- the numbers of a row with others in place of the first ones
abbrev pub with_first : List ℕ → List ℕ → List ℕ
with_first row first = take (length row) (first ++ drop (length first) row)

-- the row ends with what was left behind the slice
abbrev pub LendsNumbers : MutBor (List ℕ) → MutBor (List ℕ) → Fml
LendsNumbers s r = Lends the_row (Array u64 0) s r (with_first s.now)
