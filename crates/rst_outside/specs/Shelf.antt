-- What a shelf of files shows to contracts.
use Rattle.std.specs.Prelude.{ℕ, ◌≡◌, List, [], ◌∷◌, ◌++◌, Option, None, Some, ⊤, if◌then◌else◌}
use Rattle.std.specs.Str.{bytes_eq}

-- How many reads have failed so far, and the files with the bytes of their names, where the shelf tells them.
pub record ShelfState : Type 0 where
  pub faults : ℕ
  pub files : Option (List (List ℕ × List ℕ))

-- The bytes of the first file with this name.
abbrev pub file_named : List (List ℕ × List ℕ) → List ℕ → Option (List ℕ)
file_named [] name = None
file_named (file ∷ files) name = if bytes_eq file.0 name then Some file.1 else file_named files name

-- The shelf has a file with this name, and its bytes meet the fact. Of a shelf that doesn't tell its files
-- nothing is said.
abbrev pub OfFile : Option (List (List ℕ × List ℕ)) → List ℕ → (List ℕ → Type 0) → Type 0
OfFile None name P = ⊤
OfFile (Some files) name P = (file : List ℕ) × (file_named files name ≡ Some file) × P file

-- These bytes are the first ones of the file.
abbrev pub Begins : List ℕ → List ℕ → Type 0
Begins bytes file = (back : List ℕ) × (file ≡ bytes ++ back)
