-- Members of a list that begins with an element.
use Rattle.std.specs.Prelude.{suc, ◌≡◌, List, [], ◌∷◌, Contains, refl, ◌⊎◌}
use Rattle.std.proofs.Common.{zero, arith, inl, inr}

-- the first of a list is a member
pub Contains-first : {X : Type 0} (x : X) (xs : List X) → Contains (x ∷ xs) x
Contains-first x xs = (0, omega arith, refl)

-- a member of the rest is a member
pub Contains-rest : {X : Type 0} (y x : X) (xs : List X) → Contains xs x → Contains (y ∷ xs) x
Contains-rest y x xs member = (suc member.0, omega arith, member.2)

-- a member is the first or one of the rest
pub Contains-cases : {X : Type 0} (y x : X) (xs : List X) → Contains (y ∷ xs) x → (y ≡ x) ⊎ Contains xs x
Contains-cases y x xs (zero, inside, is) = inl is
Contains-cases y x xs (suc k, inside, is) = inr (k, omega arith, is)

-- nothing is a member of no list
pub Contains-none : {X : Type 0} {P : Type 0} (x : X) → Contains [] x → P
Contains-none x (k, inside, is) = absurd (omega arith)
