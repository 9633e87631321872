-- The numbers of a set, in order.
use Rattle.std.specs.Prelude.{ℕ, ◌+◌, Bool, true, false, List, [], ◌∷◌}

-- those of the flags that are set, where the first flag is that of the number n
abbrev pub members_from : ℕ → List Bool → List ℕ
members_from n [] = []
members_from n (true ∷ set) = n ∷ members_from (n + 1) set
members_from n (false ∷ set) = members_from (n + 1) set

-- the numbers of the set, ascending
abbrev pub members_of : List Bool → List ℕ
members_of set = members_from 0 set
