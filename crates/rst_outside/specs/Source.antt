-- What a source of bytes shows to contracts.
use Rattle.std.specs.Prelude.{ℕ, ◌≡◌, List, [], ◌++◌, Option, None, Some, ⊤}

-- How many reads have failed so far, and the bytes that are still to come, where the source tells them.
pub record SourceState : Type 0 where
  pub faults : ℕ
  pub rest : Option (List ℕ)

-- These bytes came from a source: they were the next ones of its rest, and the rest is now what follows them.
-- A source that doesn't tell its rest doesn't begin to.
abbrev pub Came : Option (List ℕ) → List ℕ → Option (List ℕ) → Type 0
Came None bytes after = after ≡ None
Came (Some rest) bytes after = (left : List ℕ) × (after ≡ Some left) × (rest ≡ bytes ++ left)

-- No byte is still to come.
abbrev pub IsAtEnd : Option (List ℕ) → Type 0
IsAtEnd None = ⊤
IsAtEnd (Some rest) = rest ≡ []

-- These bytes are all that the source had still to give, up to its end.
pub record CameToTheEnd (before : Option (List ℕ)) (bytes : List ℕ) (after : Option (List ℕ)) : Type 0 where
  pub came : Came before bytes after
  pub at_end : IsAtEnd after
