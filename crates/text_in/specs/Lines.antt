-- A text as its lines, and a line as its words.
use Rattle.std.specs.Prelude.{ℕ, ◌<◌, ◌==◌, List, [], ◌∷◌, ◌++◌, length, map, flat_map}
use Rattle.std.specs.List.{slice_split, join_with_byte, AllByRecursion}
use Rattle.text_in.specs.Words.{IsWord}

-- The words of a line: what stands before its first blank, between two blanks, and behind the last one. A
-- line of no bytes has one word, which is empty.
abbrev pub words_of : List ℕ → List (List ℕ)
words_of line = slice_split (λ b. b == 32) line

-- The lines of a text, each as its words: what stands before its first line feed, between two line feeds, and
-- behind the last one. So the last of them is no whole line, and is empty where the text ends with a line
-- feed.
abbrev pub lines_of : List ℕ → List (List (List ℕ))
lines_of text = map words_of (slice_split (λ b. b == 10) text)

-- A line that is empty.
abbrev pub empty_line : List (List ℕ)
empty_line = [] ∷ []

-- The text of a line: its words with one blank between two of them, and a line feed.
abbrev pub line_text : List (List ℕ) → List ℕ
line_text words = join_with_byte 32 words ++ 10 ∷ []

-- The text of lines.
abbrev pub text_of : List (List (List ℕ)) → List ℕ
text_of lines = flat_map line_text lines

-- A line that can be written: words, one or more of them.
abbrev pub IsLineOfWords : List (List ℕ) → Type 0
IsLineOfWords words = (0 < length words) × AllByRecursion IsWord words

-- What is left of a text: lines, of which the last one is no whole line, and the number of the first of them.
pub record LinesLeft : Type 0 where
  pub lines : List (List (List ℕ))
  pub number : ℕ
