-- Which bytes begin an answer of a form, and where bytes stop to begin one.
use Rattle.std.specs.Prelude.{ℕ, suc, ◌≡◌, ◌+◌, ◌-◌, ◌<◌, ◌==◌, List, [], ◌∷◌, ◌++◌, take, if◌then◌else◌}
use Rattle.answer_text.specs.declared.event.AnswerEvent.{AnswerEvent}
use Rattle.answer_text.specs.declared.form.Form.{Form}
use Rattle.answer_text.specs.Forms.{silent_lines}
use Rattle.answer_text.specs.Value.{WrittenAnswer}
use Rattle.answer_text.specs.Spelling.{SpellsAnswer}
use Rattle.answer_text.specs.Events.{events_of}

-- with some bytes behind them, these spell an answer
pub record BeginsAnswer (F : Form) (bytes : List ℕ) : Type 0 where
  pub rest : List ℕ
  pub answer : WrittenAnswer
  pub spells : SpellsAnswer F (bytes ++ rest) answer

-- how many line feeds there are
abbrev pub line_feeds : List ℕ → ℕ
line_feeds [] = 0
line_feeds (b ∷ bytes) = if b == 10 then suc (line_feeds bytes) else line_feeds bytes

-- the bytes spell an answer, and these are its events
pub record IsReadWhole (F : Form) (bytes : List ℕ) (events : List AnswerEvent) : Type 0 where
  pub answer : WrittenAnswer
  pub spells : SpellsAnswer F bytes answer
  pub told : events ≡ events_of answer

-- The bytes spell no answer, and n is the line in which they cease to begin one: a front with n - 1 line feeds begins
-- an answer, and each front that begins one has fewer than n. The events are those of the lines before n, in each
-- answer that begins with that front.
pub record StopsAt (F : Form) (bytes : List ℕ) (n : ℕ) (events : List AnswerEvent) : Type 0 where
  pub front : List ℕ
  pub back : List ℕ
  pub parts : bytes ≡ front ++ back
  pub line : n ≡ line_feeds front + 1
  pub begins : BeginsAnswer F front
  pub last : (longer rest : List ℕ) → bytes ≡ longer ++ rest → BeginsAnswer F longer → line_feeds longer < n
  pub unspelled : (answer : WrittenAnswer) → SpellsAnswer F bytes answer → ⊥
  pub told : (rest : List ℕ) (answer : WrittenAnswer) → SpellsAnswer F (front ++ rest) answer →
      events ≡ take (n - suc (silent_lines F)) (events_of answer)
