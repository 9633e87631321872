-- What a search has decided of the trees of a list: a list of choices, one for each tree.
use Rattle.std.specs.Prelude.{ℕ, ◌≡◌, ◌≤◌, Bool, true, false, List, map, slice_get, Some}
use Rattle.full_tree.specs.declared.code.Tree.{Tree}
use Rattle.concatenation.specs.declared.choice.Choice.{Choice}
use Rattle.concatenation.specs.declared.choice.Choice.TheVariants.{Open, Taken, LeftOut}
use Rattle.concatenation.specs.Concatenation.{IsConcatenation, total_of}

abbrev pub is_taken : Choice → Bool
is_taken Open = false
is_taken Taken = true
is_taken LeftOut = false

abbrev pub is_left : Choice → Bool
is_left Open = true
is_left Taken = true
is_left LeftOut = false

-- the set of the trees that are taken
abbrev pub taken_of : List Choice → List Bool
taken_of choices = map is_taken choices

-- the set of the trees that are not left out
abbrev pub remaining_of : List Choice → List Bool
remaining_of choices = map is_left choices

-- the set holds every tree that is taken, and none that is left out
pub record Respects (choices : List Choice) (set : List Bool) : Type 0 where
  pub takes : (k : ℕ) → slice_get choices k ≡ Some Taken → slice_get set k ≡ Some true
  pub leaves : (k : ℕ) → slice_get choices k ≡ Some LeftOut → slice_get set k ≡ Some false

-- no concatenation that respects the choices has a smaller total
abbrev pub IsLeastUnder : ℕ → List Tree → List Choice → ℕ → Type 0
IsLeastUnder n trees choices total =
    (set : List Bool) → IsConcatenation n trees set → Respects choices set → total ≤ total_of trees set

-- the trees that are taken join all terminals
abbrev pub AreTakenJoining : ℕ → List Tree → List Choice → Type 0
AreTakenJoining n trees choices = IsConcatenation n trees (taken_of choices)

-- the trees that are not left out join all terminals
abbrev pub AreRemainingJoining : ℕ → List Tree → List Choice → Type 0
AreRemainingJoining n trees choices = IsConcatenation n trees (remaining_of choices)
