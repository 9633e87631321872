-- What the lines of the text of an answer on a grid become in version 2.
use Rattle.std.specs.Prelude.{ℕ, List}
use Rattle.answer_text.specs.declared.form.Form.TheVariants as form
use Rattle.answer_text.specs.declared.version.Version.TheVariants as version
use Rattle.answer_text.specs.AnswerLine.{Line}
use Rattle.answer_text.specs.LineKinds as line
use Rattle.answer_text.specs.Spelling.{SpellsAnswer}
use Rattle.answer_text.specs.Value.{WrittenAnswer}
pub use Rattle.answer_text.specs.Value.{upgraded}
use Rattle.answer_upgrade.specs.declared.change.Change.{Change}
use Rattle.answer_upgrade.specs.declared.change.Change.TheVariants as change

-- the bytes spell an answer on a grid of V vertices
abbrev pub IsSpelling : ℕ → List ℕ → Type 0
IsSpelling V bytes = (answer : WrittenAnswer) × SpellsAnswer (form.OnGrid V) bytes answer

-- the line that a line becomes
abbrev pub upgraded_line : Line → Line
upgraded_line (line.Title v) = line.Title version.Two
upgraded_line (line.Split e) = line.SplitEdge e
upgraded_line l = l

-- which change that is
abbrev pub change_of : Line → Change
change_of (line.Title v) = change.Title
change_of (line.Split e) = change.Split
change_of l = change.Stays
