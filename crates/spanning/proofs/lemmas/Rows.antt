-- Writes to a table that is kept row by row.
use Rattle.std.proofs.Common.{ℕ, ◌≡◌, ◌≢◌, ◌+◌, ◌*◌, ◌<◌, List, [], ◌∷◌, ◌++◌, ◌/◌, ◌%◌, length, get_or, set, ap, ◌∙◌, arith}
use Rattle.std.proofs.lemmas.Bool.{cases_eq, cases_lt}
use Rattle.std.proofs.lemmas.List.{length-set, get_or-set_same, get_or-set_other, get_or_append_left, get_or_push}
use Rattle.std.proofs.lemmas.Nat.{mul-add-lt, same_from_place, div-mul-add, mod-mul-add}
use Rattle.spanning.specs.Bottleneck.{entry}
use Rattle.spanning.specs.Relaxing.{relaxed, RelaxesRow}

-- the length that was written
pub entry-set_same : (lengths : List ℕ) (n i j x : ℕ) → length lengths ≡ n * n → i < n → j < n →
    entry (set lengths (i * n + j) x) n i j ≡ x
entry-set_same lengths n i j x size row column = get_or-set_same lengths (i * n + j) x 0 (omega (arith, size, mul-add-lt i n j n row column))

-- another row
pub entry-set_row : (lengths : List ℕ) (n i j row column x : ℕ) → j < n → column < n → i ≢ row →
    entry (set lengths (row * n + column) x) n i j ≡ entry lengths n i j
entry-set_row lengths n i j row column x j_in column_in apart =
    get_or-set_other lengths (row * n + column) (i * n + j) x 0 (λ same. apart (same_from_place i j row column n j_in column_in same).0)

-- another column
pub entry-set_column : (lengths : List ℕ) (n i j row column x : ℕ) → j < n → column < n → j ≢ column →
    entry (set lengths (row * n + column) x) n i j ≡ entry lengths n i j
entry-set_column lengths n i j row column x j_in column_in apart =
    get_or-set_other lengths (row * n + column) (i * n + j) x 0 (λ same. apart (same_from_place i j row column n j_in column_in same).1)

-- one more place of the row
pub RelaxesRow-more : (n middle row column x : ℕ) (old new : List ℕ) → length old ≡ n * n → middle < n →
    row < n → column < n → RelaxesRow n middle row column old new →
    x ≡ relaxed (entry old n) middle row column →
    RelaxesRow n middle row (column + 1) old (set new (row * n + column) x)
RelaxesRow-more n middle row column x old new size middle_in row_in column_in before is =
    grind (arith, length-set new (row * n + column) x, cases_eq, entry-set_same new n row column x (before.size ∙ size) row_in column_in, entry-set_column, entry-set_row)

-- the length from the middle to a column, while its row is made shorter
pub from_middle : (n middle row column : ℕ) (old new : List ℕ) → middle < n → column < n →
    RelaxesRow n middle row column old new → entry new n middle column ≡ entry old n middle column
from_middle n middle row column old new middle_in column_in before = grind (arith, cases_eq middle row)

-- a list of the values of a function of the place, with one more
pub pushed : (f : ℕ → ℕ) (xs : List ℕ) (place x : ℕ) → length xs ≡ place →
    ((k : ℕ) → k < place → get_or xs k 0 ≡ f k) → x ≡ f place → (k : ℕ) → k < place + 1 →
    get_or (xs ++ x ∷ []) k 0 ≡ f k
pushed f xs place x size before is k below =
    grind (arith, cases_lt k place, get_or_append_left, get_or_push xs x 0 place size)

-- the value at a place, by its row and its column
pub entry-from_place : (f : ℕ → ℕ → ℕ) (xs : List ℕ) (n i j : ℕ) → i < n → j < n →
    ((k : ℕ) → k < n * n → get_or xs k 0 ≡ f (k / n) (k % n)) → entry xs n i j ≡ f i j
entry-from_place f xs n i j row column each =
    each (i * n + j) (mul-add-lt i n j n row column) ∙ ap (λ k. f k ((i * n + j) % n)) (div-mul-add i n j column) ∙ ap (λ k. f i k) (mod-mul-add i n j column)
