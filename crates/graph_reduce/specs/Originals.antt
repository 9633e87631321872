-- A set of edges of a graph, as a list of their numbers has it.
use Rattle.std.specs.Prelude.{ℕ, ◌==◌, Bool, List, map}
use Rattle.std.specs.List.{list_any, range_with_len}

-- whether a list has a number
abbrev pub holds : ℕ → List ℕ → Bool
holds n numbers = list_any (λ m. m == n) numbers

-- the set of the numbers of a list, among so many
abbrev pub flags_of : ℕ → List ℕ → List Bool
flags_of size numbers = map (λ n. holds n numbers) (range_with_len 0 size)
