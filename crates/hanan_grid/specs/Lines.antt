-- The lines of a grid: the ascending distinct values of a list of coordinates.
use Rattle.std.specs.Prelude.{ℕ, suc, ◌+◌, ℤ, pos, ◌-ℤ◌, List, [], ◌∷◌, slice_index_or, if◌then◌else◌, unsigned_abs}
use Rattle.std.specs.Prelude.{int_lt}
use Rattle.std.specs.Ordering.{int_eq}

-- the list with one more value in its place, where it isn't there yet
abbrev pub with_value : ℤ → List ℤ → List ℤ
with_value z [] = z ∷ []
with_value z (y ∷ ys) = if int_lt z y then z ∷ y ∷ ys else (if int_eq z y then y ∷ ys else y ∷ with_value z ys)

-- the distinct values in ascending order
abbrev pub ascending : List ℤ → List ℤ
ascending [] = []
ascending (z ∷ zs) = with_value z (ascending zs)

-- the value at a place
abbrev pub line_at : List ℤ → ℕ → ℤ
line_at lines place = slice_index_or lines place (pos 0)

-- how far it is from a line to the next one
abbrev pub gap_after : List ℤ → ℕ → ℕ
gap_after lines place = unsigned_abs (line_at lines (place + 1) -ℤ line_at lines place)

-- the place of a value: how many of the lines are below it
abbrev pub place_of : ℤ → List ℤ → ℕ
place_of z [] = 0
place_of z (y ∷ ys) = if int_lt y z then suc (place_of z ys) else 0
