-- A judge and a reader that work on one answer, byte by byte.
use Rattle.std.specs.Prelude.{ℕ, ◌≡◌, ◌≤◌, List, [], ◌∷◌, ◌++◌, Option, Some, None, IfNone}
use Rattle.answer_text.specs.declared.event.AnswerEvent.{AnswerEvent}
use Rattle.answer_text.specs.declared.form.Form.{Form}
use Rattle.answer_text.specs.declared.reader.EventReader.{EventReader}
use Rattle.answer_text.specs.Reader.{Reads, bytes_fed}
use Rattle.tree_judge.specs.declared.cause.Cause.{Cause}
use Rattle.cert_check.specs.Named.{Named, named_of}
use Rattle.cert_check.specs.declared.subject.Subject.{Subject}
use Rattle.cert_check.specs.declared.verdict.Verdict.TheVariants.{Refused}
use Rattle.tree_judge.specs.declared.judge.Judge.{Judge}
use Rattle.tree_judge.specs.Judged.{SoFar, nothing_told}
use Rattle.cert_check.specs.Judged.{Passes}
use Rattle.cert_check.specs.Verdicts.{IsJudged}
use Rattle.tree_judge.specs.Standing.{IsJudgeOn, StandsFor, network_of}

-- the reader stands for some bytes
abbrev pub IsReading : Form → EventReader → Type 0
IsReading F reader = ∥ ((bytes : List ℕ) × (events : List AnswerEvent) × Reads F bytes events reader) ∥₁

-- the judge was made for the subject's graph; no more bytes were read than were fed; and as long as no line was wrong
-- the reader stands for some bytes
pub record IsUnderway (subject : Subject) (reader : EventReader) (judge : Judge) (fault : Option Cause) (count : ℕ)
    : Type 0 where
  pub sizes : IsJudgeOn (named_of subject).graph judge
  pub few : bytes_fed reader ≤ count
  pub reads : IfNone fault (IsReading (named_of subject).form reader)

-- each of these lines passes, one after another, and this is told behind the last of them
abbrev pub PassAll : Named → SoFar → List AnswerEvent → SoFar → Type 0
PassAll N s [] s' = s' ≡ s
PassAll N s (e ∷ es) s' = (m : SoFar) × Passes N s e.event e.members m × PassAll N m es s'

-- Where no line of the bytes was wrong the reader stands for them, their lines all pass, and the judge stands for what
-- they tell. Where one was, this cause is the verdict, whatever follows.
abbrev pub Follows : Named → List ℕ → EventReader → Judge → Option Cause → Type 0
Follows N bytes reader judge None =
    (events : List AnswerEvent) × (s : SoFar) × Reads N.form bytes events reader
    × PassAll N (nothing_told N.graph) events s × StandsFor N.graph s judge
Follows N bytes reader judge (Some cause) =
    (rest : List ℕ) → IsJudged N (bytes ++ rest) (record { verdict = Refused cause; network = network_of judge })
