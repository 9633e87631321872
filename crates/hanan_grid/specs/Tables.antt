-- Tables: lists of the values of a function of the row and the column, by row and then by column.
use Rattle.std.proofs.Common.{ℕ, zero, suc, ◌+◌, ◌*◌, ◌≡◌, ◌<◌, List, length, get_or, map, arith}
use Rattle.std.specs.List.{All, flat_map, range_with_len}
use Rattle.std.proofs.lemmas.List.{length-append, get_or_append_left, get_or-append-add}
use Rattle.std.proofs.lemmas.List.Elements.{All-append, All-nil}
use Rattle.std.proofs.lemmas.List.FromFn.{length-map-range_with_len, get_or-map-range_with_len}

-- the rows from a on, n of them, each with w columns
abbrev pub table_from : {X : Type 0} → (ℕ → ℕ → X) → ℕ → ℕ → ℕ → List X
table_from f a n w = flat_map (λ j. map (f j) (range_with_len 0 w)) (range_with_len a n)

-- a table has as many values as rows times columns
pub length-table_from : {X : Type 0} (f : ℕ → ℕ → X) (a n w : ℕ) → length (table_from f a n w) ≡ n * w
length-table_from f a zero w = omega arith
length-table_from f a (suc n) w =
    let row = length-append (map (f a) (range_with_len 0 w)) (table_from f (a + 1) n w) in
    omega (arith, row, length-map-range_with_len (f a) 0 w, length-table_from f (a + 1) n w)

-- the value of row j and column i stands after j rows and i columns
pub get_or-table_from : {X : Type 0} (f : ℕ → ℕ → X) (a n w j i : ℕ) (d : X) → j < n → i < w
    → get_or (table_from f a n w) (j * w + i) d ≡ f (a + j) i
get_or-table_from f a zero w j i d row column = absurd (omega arith)
get_or-table_from f a (suc n) w zero i d row column =
    let width = length-map-range_with_len (f a) 0 w in
    let at : 0 * w + i ≡ i = omega arith in
    let here : a + 0 ≡ a = omega arith in
    rw (at, here, get_or_append_left (map (f a) (range_with_len 0 w)) (table_from f (a + 1) n w) d i (omega arith))
    (get_or-map-range_with_len (f a) 0 w i i d column (omega arith))
get_or-table_from f a (suc n) w (suc j) i d row column =
    let width = length-map-range_with_len (f a) 0 w in
    let at : suc j * w + i ≡ length (map (f a) (range_with_len 0 w)) + (j * w + i) = omega arith in
    let there : a + suc j ≡ a + 1 + j = omega arith in
    rw (at, there, get_or-append-add (map (f a) (range_with_len 0 w)) (table_from f (a + 1) n w) (j * w + i) d)
    (get_or-table_from f (a + 1) n w j i d (omega arith) column)

-- what holds of each row and column holds of the whole table
pub All-table_from : {X : Type 0} (P : X → Type 0) (f : ℕ → ℕ → X) (a n w : ℕ)
    → ((j i : ℕ) → j < a + n → i < w → P (f j i)) → All P (table_from f a n w)
All-table_from P f a zero w each = All-nil P
All-table_from P f a (suc n) w each = All-append P (map (f a) (range_with_len 0 w)) (table_from f (a + 1) n w)
    (λ i d inside. let width = length-map-range_with_len (f a) 0 w in
    rw (get_or-map-range_with_len (f a) 0 w i i d (omega arith) (omega arith)) (each a i (omega arith) (omega arith)))
    (All-table_from P f (a + 1) n w (λ j i row column. each j i (omega arith) column))
