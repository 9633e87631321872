-- The members of a code: the places of the terminals that it names.
use Rattle.std.specs.Prelude.{ℕ, ◌≤◌, ◌==◌, ◌≢◌, List, [], ◌∷◌, ◌++◌, length, AllPairs, option_to_list, nat_lt}
use Rattle.std.specs.Prelude.{if◌then◌else◌}
use Rattle.full_tree.specs.declared.code.TreeCode.{TreeCode}
use Rattle.full_tree.specs.declared.code.TreeCode.TheVariants.{Long, Cross}

-- the places that a code names, in the order in which it names them
abbrev pub named_places : TreeCode → List ℕ
named_places (Long root toward drops side tip) = root ∷ drops ++ option_to_list side ++ tip ∷ []
named_places (Cross west south east north) = west ∷ south ∷ east ∷ north ∷ []

-- an ascending list with one more place, where it isn't there yet
abbrev pub with_place : ℕ → List ℕ → List ℕ
with_place p [] = p ∷ []
with_place p (q ∷ qs) = if nat_lt p q then p ∷ q ∷ qs else (if p == q then q ∷ qs else q ∷ with_place p qs)

-- the places of a list in ascending order, each once
abbrev pub ascending_places : List ℕ → List ℕ
ascending_places [] = []
ascending_places (p ∷ ps) = with_place p (ascending_places ps)

-- a code's members: the places that it names, in ascending order
abbrev pub members_of : TreeCode → List ℕ
members_of code = ascending_places (named_places code)

-- a code names at most 8 places, and none of them twice
pub record HasFewMembers (code : TreeCode) : Type 0 where
  pub few : length (named_places code) ≤ 8
  pub distinct : AllPairs (λ p q. p ≢ q) (named_places code)
