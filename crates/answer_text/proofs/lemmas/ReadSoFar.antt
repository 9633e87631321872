-- What a reader knows of the bytes behind which it stands.
use Rattle.std.proofs.Common.{ℕ, ◌≡◌, ◌+◌, List, [], ◌∷◌, ◌++◌, length, refl, arith, append_assoc, length-append}
use Rattle.std.proofs.lemmas.List.{append-nil}
use Rattle.std.proofs.lemmas.List.Concat.{flat_map-append}
use Rattle.answer_text.specs.declared.head.AnswerHead.{AnswerHead}
use Rattle.answer_text.specs.AnswerLine.{Line}
use Rattle.answer_text.specs.declared.line.Stage.{Stage}
use Rattle.answer_text.specs.declared.line.Stage.TheVariants as stage
use Rattle.answer_text.specs.declared.event.AnswerEvent.{AnswerEvent}
use Rattle.answer_text.specs.declared.version.Version.{Version}
use Rattle.answer_text.specs.declared.form.Form.{Form}
use Rattle.answer_text.specs.Forms.{first_version}
use Rattle.answer_text.specs.Lines.{line_bytes, line_text, lines_text}
use Rattle.answer_text.specs.LineFits.{FitsLine, FitsLines, IsLineRead, version_with, version_from}
use Rattle.answer_text.specs.Events.{head_with, line_told, event_at, no_head, head_from}
use Rattle.answer_text.specs.LinesRead.{ReadSoFar}
use Rattle.answer_text.proofs.lemmas.Machine.{run-append}
use Rattle.answer_text.proofs.lemmas.Due.{fits_append, version_from-append}
use Rattle.answer_text.proofs.lemmas.EventLaws.{events_from-append, head_from-append}

-- before the first line
pub read_none : (F : Form) (bytes : List ℕ) → ReadSoFar F bytes bytes stage.Title (first_version F) no_head 1 []
read_none F bytes = record { lines = []; fits = tt; due = refl; text = refl; told = refl; version_told = refl; head_told = refl; count = refl }

-- lines and one more that is due behind them
pub fits_more : (v : Version) (F : Form) (ls : List Line) (l : Line) → v ≡ version_from (first_version F) ls → FitsLines (first_version F) F ls → FitsLine (version_with v l) F l
    → FitsLines (first_version F) F (ls ++ l ∷ [])
fits_more v F ls l is f g = grind (arith, fits_append)

-- behind one more line
pub read_more : (F : Form) (bytes rest after bytes_read : List ℕ) (s s' : Stage) (v : Version) (head : AnswerHead) (number : ℕ) (events : List AnswerEvent) (l : Line)
    → ReadSoFar F bytes rest s v head number events → rest ≡ bytes_read ++ 10 ∷ after → IsLineRead v F s bytes_read l s'
    → ReadSoFar F bytes after s' (version_with v l) (head_with head l) (number + 1) (events ++ event_at number (line_told (head_with head l) l))
read_more F bytes rest after bytes_read s s' v head number events l so_far parts read =
    grind (
      arith,
      fits_more v F so_far.lines l so_far.version_told so_far.fits read.fits,
      run-append stage.Title so_far.lines (l ∷ []),
      append_assoc (line_bytes l) (10 ∷ []) after,
      append-nil (line_text l),
      append_assoc (lines_text so_far.lines) (lines_text (l ∷ [])) after,
      flat_map-append line_text so_far.lines (l ∷ []),
      append-nil (event_at (1 + length so_far.lines) (line_told (head_with (head_from no_head so_far.lines) l) l)),
      events_from-append no_head 1 so_far.lines (l ∷ []),
      version_from-append (first_version F) so_far.lines (l ∷ []),
      head_from-append no_head so_far.lines (l ∷ []),
      length-append so_far.lines (l ∷ []),
    )
