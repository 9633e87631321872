-- Terminals one after another, and marks of what is reached.
use Rattle.std.proofs.Common.{ℕ, ◌≡◌, ◌+◌, ◌<◌, ◌≤◌, Bool, true, false, List, length, get_or, arith, Some}
use Rattle.std.specs.Prelude.{slice_get, ◌↔◌}
use Rattle.std.proofs.lemmas.Bool.{cases_lt}
use Rattle.std.proofs.lemmas.Option.{slice_get-get_or, get_or_from_slice_get}
use Rattle.net_graph.specs.Flags.{has}
use Rattle.net_graph.specs.Graph.{Graph}
use Rattle.net_graph.specs.Network.{Reaches, IsNetwork, IsFirstApart}

-- the marks are those of the reached vertices
abbrev pub MarksReached : Graph → List Bool → List Bool → Type 0
MarksReached g set marks = (v : ℕ) → (has marks v ≡ true) ↔ Reaches g set v

-- the terminals before a place are reached
abbrev pub ReachedBefore : Graph → List Bool → ℕ → Type 0
ReachedBefore g set place = (p v : ℕ) → p < place → slice_get g.terminals p ≡ Some v → Reaches g set v

-- the first terminal without a mark
pub first_unmarked : (g : Graph) (set marks : List Bool) (terminals : List ℕ) (place : ℕ) → terminals ≡ g.terminals → MarksReached g set marks
    → place < length terminals → has marks (get_or terminals place 0) ≡ false → ReachedBefore g set place → IsFirstApart g set place
first_unmarked g set marks terminals place same reached inside unmarked before =
    grind (arith, slice_get-get_or terminals place 0 inside, reached (get_or terminals place 0))

-- one more terminal with a mark
pub reached_more : (g : Graph) (set marks : List Bool) (terminals : List ℕ) (place : ℕ) → terminals ≡ g.terminals → MarksReached g set marks
    → has marks (get_or terminals place 0) ≡ true → ReachedBefore g set place → ReachedBefore g set (place + 1)
reached_more g set marks terminals place same reached marked before p v below at =
    grind (arith, get_or_from_slice_get, reached v, cases_lt p place)

-- all of them
pub reached_all : (g : Graph) (set : List Bool) (place : ℕ) → length g.terminals ≤ place → ReachedBefore g set place → IsNetwork g set
reached_all g set place past before k d inside = before k (get_or g.terminals k d) (omega arith) (slice_get-get_or g.terminals k d inside)
