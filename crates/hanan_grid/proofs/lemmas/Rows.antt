-- Steps of the loops that write edges.
use Rattle.std.proofs.Common.{ℕ, zero, suc, ◌+◌, ◌≡◌, List, [], ◌∷◌, ◌++◌, map, arith}
use Rattle.std.specs.List.{range_with_len}
use Rattle.std.proofs.lemmas.List.{append_assoc, append-nil}
use Rattle.std.proofs.lemmas.List.FromFn.{map-range_with_len_more}
use Rattle.hanan_grid.specs.Tables.{table_from}

-- one more value of a row
pub row_more : {X : Type 0} (f : ℕ → X) (before now after : List X) (n : ℕ) (x : X) → now ≡ before ++ map f (range_with_len 0 n) → x ≡ f n → after ≡ now ++ x ∷ [] → after ≡ before ++ map f (range_with_len 0 (n + 1))
row_more f before now after n x so_far is pushed =
    grind (arith, map-range_with_len_more, append_assoc before (map f (range_with_len 0 n)) (f n ∷ []), f n)

-- one more row of a table
table_from-more : {X : Type 0} (f : ℕ → ℕ → X) (a n w : ℕ) → table_from f a (n + 1) w ≡ table_from f a n w ++ map (f (a + n)) (range_with_len 0 w)
table_from-more f a zero w = grind (arith, append-nil (map (f a) (range_with_len 0 w)))
table_from-more f a (suc n) w =
    grind (arith, suc n, suc (n + 1), append_assoc (map (f a) (range_with_len 0 w)) (table_from f (a + 1) n w) (map (f (a + suc n)) (range_with_len 0 w)), table_from-more f (a + 1) n w)

-- one more row of a table, behind what was there
pub table_more : {X : Type 0} (f : ℕ → ℕ → X) (before now after : List X) (n w : ℕ) → now ≡ before ++ table_from f 0 n w → after ≡ now ++ map (f n) (range_with_len 0 w) → after ≡ before ++ table_from f 0 (n + 1) w
table_more f before now after n w so_far pushed =
    grind (arith, table_from-more f 0 n w, append_assoc before (table_from f 0 n w) (map (f n) (range_with_len 0 w)))
