-- The lines that bytes tell of an answer, and how the bytes go on behind them.
use Rattle.std.specs.Prelude.{ℕ, ◌≡◌, List, ◌++◌}
use Rattle.answer_text.specs.declared.event.AnswerEvent.{AnswerEvent}
use Rattle.answer_text.specs.declared.form.Form.{Form}
use Rattle.answer_text.specs.Reading.{IsReadWhole, StopsAt}
use Rattle.answer_text.specs.Reader.{BeginsWith}

-- behind some lines a text ends, or ceases to begin an answer in the line of this number, or goes on in some way
pub data Behind : Type 0 where
  Ended : Behind
  Ceased : (line : ℕ) → Behind
  Further : Behind

-- a front of the bytes begins an answer, and these are the events of its lines, in each answer that begins with it
pub record TellsFront (F : Form) (bytes : List ℕ) (events : List AnswerEvent) : Type 0 where
  pub front : List ℕ
  pub back : List ℕ
  pub parts : bytes ≡ front ++ back
  pub begins : BeginsWith F front events

-- the bytes tell these events, and go on so behind them
abbrev pub ReadsLines : Form → List ℕ → List AnswerEvent → Behind → Type 0
ReadsLines F bytes events Behind.Ended = IsReadWhole F bytes events
ReadsLines F bytes events (Behind.Ceased n) = StopsAt F bytes n events
ReadsLines F bytes events Behind.Further = TellsFront F bytes events
