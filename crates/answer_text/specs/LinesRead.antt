-- The lines of a text that were read, and what is kept of them.
use Rattle.std.specs.Prelude.{ℕ, ◌≡◌, ◌+◌, List, ◌++◌, length, Some}
use Rattle.answer_text.specs.declared.head.AnswerHead.{AnswerHead}
use Rattle.answer_text.specs.AnswerLine.{Line}
use Rattle.answer_text.specs.declared.line.Stage.{Stage}
use Rattle.answer_text.specs.declared.line.Stage.TheVariants as stage
use Rattle.answer_text.specs.declared.event.AnswerEvent.{AnswerEvent}
use Rattle.answer_text.specs.declared.version.Version.{Version}
use Rattle.answer_text.specs.declared.form.Form.{Form}
use Rattle.answer_text.specs.Forms.{first_version}
use Rattle.answer_text.specs.Lines.{lines_text, run}
use Rattle.answer_text.specs.LineFits.{FitsLines, version_from}
use Rattle.answer_text.specs.Events.{events_from, no_head, head_from}

-- the lines that were read, and what is kept of them
pub record ReadSoFar (F : Form) (bytes rest : List ℕ) (s : Stage) (v : Version) (head : AnswerHead) (number : ℕ)
    (events : List AnswerEvent) : Type 0 where
  pub lines : List Line
  pub fits : FitsLines (first_version F) F lines
  pub due : run stage.Title lines ≡ Some s
  pub text : bytes ≡ lines_text lines ++ rest
  pub told : events ≡ events_from no_head 1 lines
  pub version_told : v ≡ version_from (first_version F) lines
  pub head_told : head ≡ head_from no_head lines
  pub count : number ≡ length lines + 1
