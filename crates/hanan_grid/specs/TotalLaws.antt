-- The sum of a grid's edges, by its lines.
use Rattle.std.specs.Prelude.{ℕ, suc, ◌+◌, ◌-◌, ◌*◌, ◌≡◌, ◌<◌, ◌≤◌, ℤ, pos, ◌+ℤ◌, ◌-ℤ◌, ◌≤ℤ◌, List, length, map}
use Rattle.std.specs.Prelude.{Contains, sum_by, unsigned_abs, refl}
use Rattle.std.specs.List.{range_with_len}
use Rattle.std.proofs.Common.{zero, ◌∙◌, arith, inl, inr}
use Rattle.std.proofs.lemmas.Int.{ints}
use Rattle.std.proofs.lemmas.Bool.{cases_lt}
use Rattle.std.proofs.lemmas.List.Sums.{sum_by-cons, sum_by-append}
use Rattle.points_in.specs.declared.point.Point.{Point}
use Rattle.net_graph.specs.declared.edge.Edge.{Edge}
use Rattle.net_graph.specs.Graph.{total_of}
use Rattle.hanan_grid.specs.Lines.{line_at, gap_after, place_of}
use Rattle.hanan_grid.specs.Grid.{xs_of, ys_of, horizontal, vertical, horizontals, verticals, hanan_grid_of}
use Rattle.hanan_grid.specs.LinesLaws.{IsRising, gap_after-is, line_at-rises, place_of-below, line_at-place_of}
use Rattle.hanan_grid.specs.Tables.{table_from}

-- the gaps from a line on
abbrev pub gaps_from : List ℤ → ℕ → ℕ → ℕ
gaps_from lines a zero = 0
gaps_from lines a (suc n) = gap_after lines a + gaps_from lines (a + 1) n

-- a line and the gaps behind it make the line after them
pub span_of : (lines : List ℤ) (a n : ℕ) → a + n < length lines → IsRising lines
    → line_at lines a +ℤ pos (gaps_from lines a n) ≡ line_at lines (a + n)
span_of lines a zero inside rises =
    let here : a + 0 ≡ a = omega arith in rw here (omega (arith, ints))
span_of lines a (suc n) inside rises =
    let there : a + suc n ≡ a + 1 + n = omega arith in
    rw there (omega (
      arith,
      ints,
      gap_after-is lines a (omega arith) rises,
      span_of lines (a + 1) n (omega arith) rises,
    ))

-- no line is below the first
first_lowest : (lines : List ℤ) (i : ℕ) → i < length lines → IsRising lines → line_at lines 0 ≤ℤ line_at lines i
first_lowest lines zero inside rises = omega (arith, ints)
first_lowest lines (suc i) inside rises = omega (arith, ints, line_at-rises lines 0 (suc i) (omega arith) inside rises)

-- no line is above the last
last_highest : (lines : List ℤ) (i : ℕ) → i < length lines → IsRising lines
    → line_at lines i ≤ℤ line_at lines (length lines - 1)
last_highest lines i inside rises = elim (cases_lt i (length lines - 1)) [
  | inl before ↦ omega (arith, ints, line_at-rises lines i (length lines - 1) before (omega arith) rises)
  | inr last ↦ let at : i ≡ length lines - 1 = omega arith in rw at (omega (arith, ints))
]

-- how far the last line is from the first
abbrev pub width_of : List ℤ → ℕ
width_of lines = gaps_from lines 0 (length lines - 1)

-- two lines are at most that far apart
pub apart_le : (lines : List ℤ) (y z : ℤ) → Contains lines y → Contains lines z → IsRising lines
    → unsigned_abs (y -ℤ z) ≤ width_of lines
apart_le lines y z member member' rises =
    let i = place_of-below y lines member rises in
    let j = place_of-below z lines member' rises in
    let at = line_at-place_of y lines member rises in
    let at' = line_at-place_of z lines member' rises in
    let last : 0 + (length lines - 1) ≡ length lines - 1 = omega arith in
    let whole = rw last at (span_of lines 0 (length lines - 1) (omega arith) rises) in
    let low = first_lowest lines (place_of y lines) i rises in
    let low' = first_lowest lines (place_of z lines) j rises in
    let high = last_highest lines (place_of y lines) i rises in
    let high' = last_highest lines (place_of z lines) j rises in
    omega (arith, ints)

-- a row of a table whose values are columns' gaps sums to these gaps
row_sum : (lines : List ℤ) (f : ℕ → Edge) → ((i : ℕ) → (f i).length ≡ gap_after lines i) → (a n : ℕ)
    → sum_by (λ e. e.length) (map f (range_with_len a n)) ≡ gaps_from lines a n
row_sum lines f each a zero = refl
row_sum lines f each a (suc n) =
    sum_by-cons (λ e. e.length) (f a) (map f (range_with_len (a + 1) n))
    ∙ omega (arith, each a, row_sum lines f each (a + 1) n)

-- a table of such rows sums to the gaps of one row times the rows
rows_sum : (lines : List ℤ) (f : ℕ → ℕ → Edge) → ((j i : ℕ) → (f j i).length ≡ gap_after lines i) → (a n w : ℕ)
    → sum_by (λ e. e.length) (table_from f a n w) ≡ n * gaps_from lines 0 w
rows_sum lines f each a zero w = omega arith
rows_sum lines f each a (suc n) w =
    sum_by-append (λ e. e.length) (map (f a) (range_with_len 0 w)) (table_from f (a + 1) n w)
    ∙ omega (arith, row_sum lines (f a) (each a) 0 w, rows_sum lines f each (a + 1) n w)

-- a row whose values are all one gap sums to that gap times the columns
even_row_sum : (g : ℕ) (f : ℕ → Edge) → ((i : ℕ) → (f i).length ≡ g) → (a w : ℕ)
    → sum_by (λ e. e.length) (map f (range_with_len a w)) ≡ w * g
even_row_sum g f each a zero = omega arith
even_row_sum g f each a (suc w) =
    sum_by-cons (λ e. e.length) (f a) (map f (range_with_len (a + 1) w))
    ∙ omega (arith, each a, even_row_sum g f each (a + 1) w)

-- a table whose values are rows' gaps sums to these gaps times the columns
columns_sum : (lines : List ℤ) (f : ℕ → ℕ → Edge) → ((j i : ℕ) → (f j i).length ≡ gap_after lines j) → (a n w : ℕ)
    → sum_by (λ e. e.length) (table_from f a n w) ≡ w * gaps_from lines a n
columns_sum lines f each a zero w = omega arith
columns_sum lines f each a (suc n) w =
    sum_by-append (λ e. e.length) (map (f a) (range_with_len 0 w)) (table_from f (a + 1) n w)
    ∙ omega (arith, even_row_sum (gap_after lines a) (f a) (each a) 0 w, columns_sum lines f each (a + 1) n w)

-- the grid's total: each row is as long as the grid is wide, and each column as long as it is high
pub total_of-hanan_grid_of : (ps : List Point)
    → total_of (hanan_grid_of ps) ≡ length (ys_of ps) * width_of (xs_of ps) + length (xs_of ps) * width_of (ys_of ps)
total_of-hanan_grid_of ps =
    let xs = xs_of ps in
    let ys = ys_of ps in
    let across = rows_sum xs (horizontal xs) (λ j i. refl) 0 (length ys) (length xs - 1) in
    let up = columns_sum ys (vertical (length xs) ys) (λ j i. refl) 0 (length ys - 1) (length xs) in
    sum_by-append (λ e. e.length) (horizontals xs ys) (verticals xs ys) ∙ omega (arith, across, up)
