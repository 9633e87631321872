-- The lines that each text of sections has, as their words.
use Rattle.std.specs.Prelude.{ℕ, List, [], ◌∷◌, codes}
use Rattle.std.specs.Fmt.{decimal, signed_decimal}
use Rattle.points_in.specs.declared.point.Point.{Point}

-- a line that counts what follows
abbrev pub count_words : List ℕ → ℕ → List (List ℕ)
count_words kind count = kind ∷ decimal count ∷ []

abbrev pub points_words : ℕ → List (List ℕ)
points_words count = count_words (codes "points") count

-- the line of a point: x and y
abbrev pub point_words : Point → List (List ℕ)
point_words p = signed_decimal p.x ∷ signed_decimal p.y ∷ []

-- the last line
abbrev pub end_words : List (List ℕ)
end_words = codes "end" ∷ []
