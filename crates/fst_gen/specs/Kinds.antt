-- The kinds of codes that the steps of a generation look through.
use Rattle.std.specs.Prelude.{ℕ, ◌≡◌, ◌<◌, ◌⊎◌, List, []}
use Rattle.full_tree.specs.declared.way.Way.{Way}
use Rattle.full_tree.specs.declared.code.TreeCode.{TreeCode}
use Rattle.full_tree.specs.declared.code.TreeCode.TheVariants.{Cross}
use Rattle.fst_gen.specs.Prefix.{HasPrefix, EndsBelow, ContinuesBelow}

-- codes of a beginning, with a tip below n and no further drop, or with a next drop below m
abbrev pub GrownBelow : ℕ → Way → List ℕ → ℕ → ℕ → TreeCode → Type 0
GrownBelow root toward drops n m code = EndsBelow root toward drops n code ⊎ ContinuesBelow root toward drops m code

-- long codes of a root and any direction
abbrev pub IsRootedAt : ℕ → TreeCode → Type 0
IsRootedAt root code = (toward : Way) × HasPrefix root toward [] code

abbrev pub IsRootedBelow : ℕ → TreeCode → Type 0
IsRootedBelow n code = (root : ℕ) × (root < n) × IsRootedAt root code

-- codes of one of several kinds, and of one of the first n of them
abbrev pub OfAny : (ℕ → TreeCode → Type 0) → TreeCode → Type 0
OfAny Of code = (i : ℕ) × Of i code

abbrev pub Below : (ℕ → TreeCode → Type 0) → ℕ → TreeCode → Type 0
Below Of n code = (i : ℕ) × (i < n) × Of i code

-- crosses, by one terminal after another
abbrev pub IsCrossOf : ℕ → ℕ → ℕ → ℕ → TreeCode → Type 0
IsCrossOf west east south north code = code ≡ Cross west south east north

abbrev pub CrossesHalf : ℕ → ℕ → ℕ → TreeCode → Type 0
CrossesHalf west east south = OfAny (IsCrossOf west east south)

abbrev pub CrossesLevel : ℕ → ℕ → TreeCode → Type 0
CrossesLevel west east = OfAny (CrossesHalf west east)

abbrev pub CrossesWest : ℕ → TreeCode → Type 0
CrossesWest west = OfAny (CrossesLevel west)

abbrev pub IsAnyCross : TreeCode → Type 0
IsAnyCross = OfAny CrossesWest
