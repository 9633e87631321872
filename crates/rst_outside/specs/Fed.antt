-- What a consumer that is fed a text piece by piece makes of it.
use Rattle.std.specs.Prelude.{ℕ, List, ◌++◌}

-- A consumer was fed these bytes: for every list of bytes for which it stood, it now stands for that list with
-- these behind it.
abbrev pub Fed : {T : Type 0} → (T → List ℕ → Type 0) → T → List ℕ → T → Type 0
Fed stands before bytes after = (front : List ℕ) → stands before front → stands after (front ++ bytes)
