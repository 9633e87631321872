-- Lines and words, as lists of bytes.
use Rattle.std.specs.Prelude.{ℕ, ◌≢◌, ◌<◌, List, length, All}

-- The byte stands nowhere among these.
abbrev pub Lacks : List ℕ → ℕ → Type 0
Lacks bytes byte = All (λ b. b ≢ byte) bytes

-- What stands between two line feeds.
abbrev pub IsLine : List ℕ → Type 0
IsLine bytes = Lacks bytes 10

-- At least one byte, with neither a blank nor a line feed among them.
pub record IsWord (bytes : List ℕ) : Type 0 where
  pub some : 0 < length bytes
  pub no_blank : Lacks bytes 32
  pub no_line_feed : Lacks bytes 10
