-- Which bytes a reader of a form stands for.
use Rattle.std.specs.Prelude.{ℕ, ◌≡◌, ◌-◌, Bool, List, [], ◌∷◌, ◌++◌, length, take}
use Rattle.text_in.specs.Words.{Lacks}
use Rattle.answer_text.specs.AnswerLine.{Line}
use Rattle.answer_text.specs.declared.line.Stage.{Stage}
use Rattle.answer_text.specs.declared.line.Stage.TheVariants as stage
use Rattle.answer_text.specs.declared.event.AnswerEvent.{AnswerEvent}
use Rattle.answer_text.specs.declared.form.Form.{Form}
use Rattle.answer_text.specs.Forms.{HasVertices, set_size, silent_lines}
use Rattle.answer_text.specs.declared.scan.Scan.TheVariants as scan
use Rattle.answer_text.specs.declared.reader.EventReader.{EventReader}
use Rattle.answer_text.specs.Value.{WrittenAnswer}
use Rattle.answer_text.specs.Spelling.{SpellsAnswer, FitsName}
use Rattle.answer_text.specs.Words.{version_number}
use Rattle.answer_text.specs.LineFits.{IsLineRead}
use Rattle.answer_text.specs.Events.{events_of}
use Rattle.answer_text.specs.Reading.{BeginsAnswer, line_feeds, StopsAt}
use Rattle.answer_text.specs.LinesRead.{ReadSoFar}
use Rattle.answer_text.specs.Scanning.{Left, IsSound}

-- how many bytes were fed, the line of the next byte, and the set of the cut that was just read
abbrev pub bytes_fed : EventReader → ℕ
bytes_fed reader = reader.fed

abbrev pub line_due : EventReader → ℕ
line_due reader = reader.line

abbrev pub set_read : EventReader → List Bool
set_read reader = reader.kept.members

-- The reader stands for these bytes, of whose whole lines these are the events: their last line, which is not whole,
-- is what was read of it, and what may follow makes it a line that is due.
pub record Reads (F : Form) (bytes : List ℕ) (events : List AnswerEvent) (reader : EventReader) : Type 0 where
  pub begun : List ℕ
  pub lines : ReadSoFar F bytes begun reader.kept.stage reader.kept.version reader.head reader.line
      events
  pub unended : Lacks begun 10
  pub due : (rest : List ℕ) (l : Line) → Left reader.kept reader.scan rest l
      → (s' : Stage) × IsLineRead reader.kept.version F reader.kept.stage (begun ++ rest) l s'
  pub left : (rest : List ℕ) (l : Line) (s' : Stage)
      → IsLineRead reader.kept.version F reader.kept.stage (begun ++ rest) l s' → Left reader.kept reader.scan rest l
  pub sound : IsSound reader.kept reader.scan
  pub name : FitsName reader.kept.name
  pub at_end : reader.scan ≡ scan.Ended → (reader.kept.stage ≡ stage.Done) × (begun ≡ [])
  pub count : reader.fed ≡ length bytes
  pub form : reader.form ≡ F
  pub some : HasVertices F
  pub vertices : length reader.kept.members ≡ set_size F

-- the reader refuses each further byte, with this line
pub record Refuses (reader : EventReader) (n : ℕ) : Type 0 where
  pub line : reader.line ≡ n
  pub refused : reader.scan ≡ scan.Refused

-- the bytes begin an answer, and in each answer that begins with them these events are its first
pub record BeginsWith (F : Form) (bytes : List ℕ) (events : List AnswerEvent) : Type 0 where
  pub begins : BeginsAnswer F bytes
  pub told : (rest : List ℕ) (answer : WrittenAnswer) → SpellsAnswer F (bytes ++ rest) answer
      → events ≡ take (line_feeds bytes - silent_lines F) (events_of answer)

-- this is the version of each answer that begins with the bytes
abbrev pub TellsVersion : Form → List ℕ → ℕ → Type 0
TellsVersion F bytes n = (rest : List ℕ) (answer : WrittenAnswer) →
    SpellsAnswer F (bytes ++ rest) answer → n ≡ version_number answer.version

-- with this byte the bytes cease to begin an answer, in the line n: whatever follows, they stop there
pub record CeasesAt (F : Form) (bytes : List ℕ) (byte n : ℕ) (events : List AnswerEvent) : Type 0 where
  pub ceased : BeginsAnswer F (bytes ++ byte ∷ []) → ⊥
  pub stops : (rest : List ℕ) → StopsAt F (bytes ++ byte ∷ rest) n events
