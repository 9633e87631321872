-- The words of a text: what stands between blanks, each with the place where it begins.
use Rattle.std.specs.Prelude.{ℕ, ◌+◌, ◌==◌, ◌||◌, Bool, not, List, [], ◌∷◌, length, filter}
use Rattle.std.specs.List.{slice_split, before_first}

-- A blank, a tab, a line feed or a carriage return; every other byte belongs to a word.
abbrev pub is_blank : ℕ → Bool
is_blank byte = byte == 32 || (byte == 9 || (byte == 10 || byte == 13))

-- A word, and the place of its first byte in the text, counted from 0.
pub record Word : Type 0 where
  pub at : ℕ
  pub bytes : List ℕ

-- Parts in a row, of which the first begins at a place and any two have one byte between them.
abbrev pub placed : ℕ → List (List ℕ) → List Word
placed at [] = []
placed at (part ∷ parts) = record { at = at; bytes = part } ∷ placed (at + length part + 1) parts

-- The words of bytes that stand at a place of the text: these are split at each blank, and where two blanks meet, or
-- at an end, no word stands.
unfoldable pub words_from : ℕ → List ℕ → List Word
words_from at bytes = filter (λ word. not (length word.bytes == 0)) (placed at (slice_split is_blank bytes))

-- the words of a whole text
abbrev pub words_of : List ℕ → List Word
words_of bytes = words_from 0 bytes

-- The bytes before the first blank, all of them where there is none.
abbrev pub front_word : List ℕ → List ℕ
front_word bytes = before_first is_blank bytes
