-- What is told of bytes that may be the text of an answer on a grid.
use Rattle.std.specs.Prelude.{ℕ, ◌≡◌, List}
use Rattle.answer_text.specs.declared.event.AnswerEvent.{AnswerEvent}
use Rattle.answer_text.specs.declared.form.Form.TheVariants as form
use Rattle.answer_text.specs.declared.reader.EventReader.{EventReader}
use Rattle.answer_text.specs.Reader.{Reads}
use Rattle.answer_text.specs.Reading.{StopsAt}
use Rattle.answer_text.specs.Spelling.{SpellsAnswer}
use Rattle.answer_text.specs.Value.{WrittenAnswer}
use Rattle.answer_text.specs.Words.{version_number}
use Rattle.answer_upgrade.specs.declared.told.Spelled.{Spelled}
use Rattle.answer_upgrade.specs.declared.told.Spelled.TheVariants as told

-- the reader stands for the bytes, whatever their events are
abbrev pub IsReading : ℕ → List ℕ → EventReader → Type 0
IsReading V bytes reader = (events : List AnswerEvent) × Reads (form.OnGrid V) bytes events reader

-- the bytes spell no answer, and cease to begin one in this line
abbrev pub Stops : ℕ → List ℕ → ℕ → Type 0
Stops V bytes n = (events : List AnswerEvent) × StopsAt (form.OnGrid V) bytes n events

-- they spell an answer of this version, or none
abbrev pub TellsSpelling : ℕ → List ℕ → Spelled → Type 0
TellsSpelling V bytes (told.Whole n) =
    (answer : WrittenAnswer) × SpellsAnswer (form.OnGrid V) bytes answer × (n ≡ version_number answer.version)
TellsSpelling V bytes (told.Fault n) = Stops V bytes n
