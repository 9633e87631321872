-- The text of a file between the phases. It is this project's own.
use Rattle.std.specs.Prelude.{ℕ, ◌≡◌, List}
use Rattle.text_in.specs.Lines.{text_of}
use Rattle.fst_file.specs.Value.{FstValue, IsFstValue}
use Rattle.section_text.specs.Text.{section_lines}
use Rattle.fst_file.specs.Format.{fst_format}

-- The lines: the title, how many points there are, the points, how many trees there are, the trees, and the
-- end.
abbrev pub fst_lines : FstValue → List (List (List ℕ))
fst_lines v = section_lines fst_format v.points v.trees

-- the spelling of a value
abbrev pub fst_text : FstValue → List ℕ
fst_text v = text_of (fst_lines v)

-- the bytes spell the value of a file
pub record SpellsFstFile (bytes : List ℕ) (v : FstValue) : Type 0 where
  pub value : IsFstValue v
  pub text : bytes ≡ fst_text v
