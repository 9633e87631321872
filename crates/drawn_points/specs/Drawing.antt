-- The points of a generator's words. That two words make a point, each modulo 10000, is this project's own choice.
use Rattle.std.specs.Prelude.{ℕ, ◌+◌, ◌%◌, ℤ, pos, List, [], ◌∷◌}
use Rattle.points_in.specs.declared.point.Point.{Point}
use Rattle.rand_core.specs.Steps.{first_words}
use Rattle.rand_pcg.specs.Lcg.{Lcg, started, increment_of}
use Rattle.rand_pcg.specs.Pcg.{multiplier_64, pcg32}

-- the coordinate of a word
abbrev pub coordinate_of : ℕ → ℤ
coordinate_of word = pos (word % 10000)

-- the point of two words
abbrev pub point_of_words : ℕ → ℕ → Point
point_of_words x y = record { x = coordinate_of x; y = coordinate_of y }

-- The words are x and y in turn. A last x without its y gives no point.
abbrev pub points_of_words : List ℕ → List Point
points_of_words [] = []
points_of_words (x ∷ []) = []
points_of_words (x ∷ y ∷ words) = point_of_words x y ∷ points_of_words words

-- the generator of a seed: PCG-XSH-RR 64/32 on stream 54 (O'Neill 2014)
abbrev pub generator_of : ℕ → Lcg
generator_of seed = started 64 multiplier_64 seed (increment_of 64 54)

-- the next n points of a generator: those of its next 2n words
unfoldable pub next_points : ℕ → Lcg → List Point
next_points n generator = points_of_words (first_words pcg32 (n + n) generator)

-- the n points of a seed
abbrev pub drawn_points : ℕ → ℕ → List Point
drawn_points n seed = next_points n (generator_of seed)
