-- What a reader stands for and where bytes stop, said of the same bytes.
use Rattle.std.proofs.Common.{ℕ, ◌≡◌, List, subst}
use Rattle.answer_text.specs.declared.event.AnswerEvent.{AnswerEvent}
use Rattle.answer_text.specs.declared.form.Form.TheVariants as form
use Rattle.answer_text.specs.declared.reader.EventReader.{EventReader}
use Rattle.answer_text.specs.Reading.{StopsAt}
use Rattle.answer_text.specs.Reader.{Reads}
use Rattle.answer_upgrade.specs.Spelling.{IsReading, Stops}

pub stands_for : (V : ℕ) (xs ys : List ℕ) (events : List AnswerEvent) (reader : EventReader) → xs ≡ ys → Reads (form.OnGrid V) xs events reader → IsReading V ys reader
stands_for V xs ys events reader same reads = (events, subst (λ x. Reads (form.OnGrid V) x events reader) same reads)

pub stops_in : (V : ℕ) (xs ys : List ℕ) (m n : ℕ) (events : List AnswerEvent) → xs ≡ ys → m ≡ n → StopsAt (form.OnGrid V) xs m events → Stops V ys n
stops_in V xs ys m n events same line stops = (events, subst (λ x. StopsAt (form.OnGrid V) x n events) same (subst (λ k. StopsAt (form.OnGrid V) xs k events) line stops))
