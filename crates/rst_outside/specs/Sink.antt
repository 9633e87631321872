-- What a sink of bytes shows to contracts, and what a writer of a stated text does to one.
use Rattle.std.specs.Prelude.{ℕ, ◌≡◌, ◌+◌, ◌<◌, ◌≤◌, List, ◌++◌, length, Option, None, Some, Result, Ok, Err, ⊤}
use Rattle.rst_outside.specs.Counts.{Rose}

-- How many writes have failed so far, how many bytes the sink certainly still takes, and the bytes
-- that it took, where it tells them.
pub record SinkState : Type 0 where
  pub faults : ℕ
  pub sure : ℕ
  pub taken : Option (List ℕ)

-- The bytes were appended to what a sink took. Of a sink that doesn't tell it nothing is said.
abbrev pub Appended : Option (List ℕ) → List ℕ → Option (List ℕ) → Type 0
Appended None bytes after = ⊤
Appended (Some taken) bytes after = after ≡ Some (taken ++ bytes)

-- All of the text was appended.
pub record Wrote (before : SinkState) (text : List ℕ) (after : SinkState) : Type 0 where
  pub appended : Appended before.taken text after.taken
  pub count : before.faults ≤ after.faults
  pub room : before.sure ≤ after.sure + length text

-- A proper prefix of the text was appended, and the count of faults rose. It never happens where the
-- sink surely had room for the text.
pub record CutShort (before : SinkState) (text : List ℕ) (after : SinkState) : Type 0 where
  pub prefix : (front back : List ℕ) × (text ≡ front ++ back) × (0 < length back)
      × Appended before.taken front after.taken
  pub count : before.faults ≤ after.faults
  pub rose : Rose before.faults after.faults
  pub no_room : before.sure < length text

-- The clause of every writer: on Ok all of the text was appended, else a proper prefix.
abbrev pub Writes : {E : Type 0} → SinkState → List ℕ → SinkState → Result ⊤ E → Type 0
Writes before text after (Ok done) = Wrote before text after
Writes before text after (Err fault) = CutShort before text after
