-- Which lines a text of a version and a form may have, and which bytes are a line that is due.
use Rattle.std.specs.Prelude.{ℕ, ◌≡◌, ◌<◌, ◌≤◌, ◌^◌, List, [], ◌∷◌, Some}
use Rattle.answer_text.specs.declared.form.Form.{Form}
use Rattle.answer_text.specs.declared.version.Version.{Version}
use Rattle.answer_text.specs.declared.version.Version.TheVariants as version
use Rattle.answer_text.specs.AnswerLine.{Line}
use Rattle.answer_text.specs.LineKinds as line
use Rattle.answer_text.specs.declared.line.Stage.{Stage}
use Rattle.answer_text.specs.Forms.{HasNoNote, HasNote, IsVersionOf, SaysKind, most_edges, set_size}
use Rattle.answer_text.specs.Spelling.{FitsCut, FitsEdge, FitsVertex}
use Rattle.answer_text.specs.Lines.{line_bytes, step}

-- the line is one of this version and form, its numbers are within their widths, its labels are of the form, and its
-- set is one of the form's vertices
abbrev pub FitsLine : Version → Form → Line → Type 0
FitsLine v F (line.Title w) = (v ≡ w) × IsVersionOf F w
FitsLine v F (line.Length n) = n < 2 ^ 64
FitsLine v F (line.Bound n) = n < 2 ^ 64
FitsLine v F (line.Status optimal) = Unit {0}
FitsLine v F (line.Openings n) = HasNote F × (n < 2 ^ 8)
FitsLine v F (line.LastOpenings n) = HasNoNote F × (n < 2 ^ 8)
FitsLine v F (line.Concat c) = c.total < 2 ^ 128
FitsLine v F (line.Count n) = n ≤ most_edges F
FitsLine v F (line.Edge e) = FitsEdge F e
FitsLine v F line.Tree = Unit {0}
FitsLine v F (line.Split e) = (v ≡ version.One) × FitsEdge F e
FitsLine v F (line.SplitEdge e) = SaysKind v × FitsEdge F e
FitsLine v F (line.SplitVertex p) = SaysKind v × FitsVertex F p
FitsLine v F (line.Leaf n) = n < 2 ^ 32
FitsLine v F (line.Cut c) = FitsCut (set_size F) c
FitsLine v F line.End = Unit {0}

-- the version behind a line: the title tells it
abbrev pub version_with : Version → Line → Version
version_with v (line.Title w) = w
version_with v l = v

-- the version that lines tell
abbrev pub version_from : Version → List Line → Version
version_from v [] = v
version_from v (l ∷ ls) = version_from (version_with v l) ls

-- each of the lines is one of the version that was told
abbrev pub FitsLines : Version → Form → List Line → Type 0
FitsLines v F [] = Unit {0}
FitsLines v F (l ∷ ls) = FitsLine (version_with v l) F l × FitsLines (version_with v l) F ls

-- these bytes are a line that is due, and that is due behind it
pub record IsLineRead (v : Version) (F : Form) (s : Stage) (bytes : List ℕ) (l : Line) (s' : Stage)
    : Type 0 where
  pub told : bytes ≡ line_bytes l
  pub fits : FitsLine (version_with v l) F l
  pub due : step s l ≡ Some s'

-- these bytes are no line that is due
abbrev pub IsNoLine : Version → Form → Stage → List ℕ → Type 0
IsNoLine v F s bytes = (l : Line) (s' : Stage) →
    FitsLine (version_with v l) F l → step s l ≡ Some s' → bytes ≡ line_bytes l → ⊥
