-- Lists in which no number stands twice.
use Rattle.std.specs.Prelude.{ℕ, ◌==◌, not, List, [], ◌∷◌, filter}

-- the list without a number
abbrev pub without : ℕ → List ℕ → List ℕ
without v xs = filter (λ x. not (x == v)) xs

-- the list without repeats: each number where it stands first
abbrev pub distinct_of : List ℕ → List ℕ
distinct_of [] = []
distinct_of (x ∷ xs) = x ∷ without x (distinct_of xs)
