-- An STP text as its lines, and a line as its words.
use Rattle.std.specs.Prelude.{ℕ, ◌+◌, ◌-◌, ◌==◌, ◌||◌, Bool, not, if◌then◌else◌, List, [], ◌∷◌, length, take, filter, slice_index}
use Rattle.std.specs.List.{slice_split}
use Rattle.std.specs.Str.{str_eq_ignore_ascii_case}

-- a blank or a tab
abbrev pub is_gap : ℕ → Bool
is_gap byte = byte == 32 || byte == 9

-- the words of a line: what stands between blanks and tabs
abbrev pub words_of : List ℕ → List (List ℕ)
words_of line = filter (λ word. not (length word == 0)) (slice_split is_gap line)

-- a line without the carriage return at its end, if there is one
abbrev pub without_return : List ℕ → List ℕ
without_return line = if slice_index line (length line - 1) == 13 then take (length line - 1) line else line

-- What stands between line feeds, as lines. The last one has no line feed behind it, so that a carriage return at
-- its end is a byte like others.
abbrev pub ended_lines : List (List ℕ) → List (List ℕ)
ended_lines [] = []
ended_lines (last ∷ []) = last ∷ []
ended_lines (line ∷ next ∷ more) = without_return line ∷ ended_lines (next ∷ more)

-- The lines of a text: what stands before its first line feed, between two line feeds, and behind the last one.
abbrev pub lines_of : List ℕ → List (List ℕ)
lines_of text = ended_lines (slice_split (λ b. b == 10) text)

-- whether a word is this keyword, in letters of either case
abbrev pub is_keyword : List ℕ → List ℕ → Bool
is_keyword name word = str_eq_ignore_ascii_case name word

-- A line that tells something: its number in the text, its first word, and the others.
pub record ToldLine : Type 0 where
  pub number : ℕ
  pub keyword : List ℕ
  pub operands : List (List ℕ)

-- A line before others. One without words, and one that begins with `#`, is passed over.
abbrev pub told_line : ℕ → List (List ℕ) → List ToldLine → List ToldLine
told_line n [] others = others
told_line n (keyword ∷ operands) others =
    if slice_index keyword 0 == 35
    then others
    else record { number = n; keyword = keyword; operands = operands } ∷ others

-- the lines that tell something, where the first has this number
abbrev pub told_lines : ℕ → List (List ℕ) → List ToldLine
told_lines n [] = []
told_lines n (line ∷ lines) = told_line n (words_of line) (told_lines (n + 1) lines)
