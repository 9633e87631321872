-- The events of lines, one after another.
use Rattle.std.proofs.Common.{ℕ, suc, zero, ◌≡◌, ◌+◌, ◌-◌, List, [], ◌∷◌, ◌++◌, length, take, refl, ap, arith, Some}
use Rattle.std.proofs.Math.Seq.{take-append_seam}
use Rattle.answer_text.specs.declared.form.Form.{Form}
use Rattle.answer_text.specs.declared.form.Form.TheVariants as form
use Rattle.answer_text.specs.declared.head.AnswerHead.{AnswerHead}
use Rattle.answer_text.specs.declared.version.Version.{Version}
use Rattle.answer_text.specs.AnswerLine.{Line}
use Rattle.answer_text.specs.LineKinds as line
use Rattle.answer_text.specs.declared.line.Stage.{Stage}
use Rattle.answer_text.specs.declared.line.Stage.TheVariants as stage
use Rattle.answer_text.specs.Value.{WrittenAnswer}
use Rattle.answer_text.specs.Lines.{answer_lines, run}
use Rattle.answer_text.specs.Events.{events_of, head_with, events_from, no_head, head_from}
use Rattle.answer_text.specs.Forms.{HasNote, HasNoNote, silent_lines}
use Rattle.answer_text.specs.LineFits.{FitsLines}
use Rattle.answer_text.proofs.lemmas.Steps.{step-done}

-- ---- lines one after another

-- the events of two runs of lines
pub events_from-append : (h : AnswerHead) (n : ℕ) (xs ys : List Line) → events_from h n (xs ++ ys) ≡ events_from h n xs ++ events_from (head_from h xs) (n + length xs) ys
events_from-append h n [] ys = ap (λ m. events_from h m ys) (omega arith)
events_from-append h n (x ∷ xs) ys = grind (arith, events_from-append (head_with h x) (suc n) xs ys)

-- the head that two runs of lines tell
pub head_from-append : (h : AnswerHead) (xs ys : List Line) → head_from h (xs ++ ys) ≡ head_from (head_from h xs) ys
head_from-append h [] ys = refl
head_from-append h (x ∷ xs) ys = head_from-append (head_with h x) xs ys

-- ---- how many events there are

-- how many of the openings and the note on the concatenation are no event
abbrev note_lines : Form → ℕ
note_lines (form.OnGrid V) = 1
note_lines (form.OfGraph E V) = 0

noted_one : (F : Form) → HasNote F → note_lines F ≡ 1
noted_one F note = grind arith

bare_none : (F : Form) → HasNoNote F → note_lines F ≡ 0
bare_none F none = grind arith

-- how many lines of the head are due that are no event
abbrev silent : Form → Stage → ℕ
silent F stage.Title = 4 + note_lines F
silent F stage.Length = 3 + note_lines F
silent F stage.Bound = 2 + note_lines F
silent F stage.Status = 1 + note_lines F
silent F stage.Openings = note_lines F
silent F s = 0

-- each other line is one
count_events : (F : Form) (w : Version) (h : AnswerHead) (n : ℕ) (s s' : Stage) (ls : List Line) → run s ls ≡ Some s' → FitsLines w F ls → length (events_from h n ls) ≡ length ls - silent F s
count_events F w h n s s' [] e f = omega arith
count_events F w h n stage.Title s' (line.Title v ∷ ls) e f = omega (arith, count_events F v h (suc n) stage.Length s' ls e f.1)
count_events F w h n stage.Length s' (line.Length m ∷ ls) e f = omega (arith, count_events F w (record h { length = m }) (suc n) stage.Bound s' ls e f.1)
count_events F w h n stage.Bound s' (line.Bound m ∷ ls) e f = omega (arith, count_events F w (record h { bound = m }) (suc n) stage.Status s' ls e f.1)
count_events F w h n stage.Status s' (line.Status b ∷ ls) e f = omega (arith, count_events F w (record h { optimal = b }) (suc n) stage.Openings s' ls e f.1)
count_events F w h n stage.Openings s' (line.Openings m ∷ ls) e f = omega (arith, noted_one F f.0.0, count_events F w (record h { openings = m }) (suc n) stage.Concat s' ls e f.1)
count_events F w h n stage.Openings s' (line.LastOpenings m ∷ ls) e f = omega (arith, bare_none F f.0.0, count_events F w (record h { openings = m }) (suc n) stage.Count s' ls e f.1)
count_events F w h n stage.Concat s' (line.Concat c ∷ ls) e f = omega (arith, count_events F w (record h { concat = c }) (suc n) stage.Count s' ls e f.1)
count_events F w h n stage.Count s' (line.Count m ∷ ls) e f = omega (arith, count_events F w h (suc n) (stage.Edges m) s' ls e f.1)
count_events F w h n (stage.Edges zero) s' (line.Tree ∷ ls) e f = omega (arith, count_events F w h (suc n) (stage.Body 0 1) s' ls e f.1)
count_events F w h n (stage.Edges (suc k)) s' (line.Edge d ∷ ls) e f = omega (arith, count_events F w h (suc n) (stage.Edges k) s' ls e f.1)
count_events F w h n (stage.Body zero zero) s' (line.End ∷ ls) e f = omega (arith, count_events F w h (suc n) stage.Done s' ls e f.1)
count_events F w h n (stage.Body zero (suc p)) s' (line.Leaf m ∷ ls) e f = omega (arith, count_events F w h (suc n) (stage.Body m p) s' ls e f.1)
count_events F w h n (stage.Body zero (suc p)) s' (line.Split d ∷ ls) e f = omega (arith, count_events F w h (suc n) (stage.Body 0 (suc (suc p))) s' ls e f.1)
count_events F w h n (stage.Body zero (suc p)) s' (line.SplitEdge d ∷ ls) e f = omega (arith, count_events F w h (suc n) (stage.Body 0 (suc (suc p))) s' ls e f.1)
count_events F w h n (stage.Body zero (suc p)) s' (line.SplitVertex d ∷ ls) e f = omega (arith, count_events F w h (suc n) (stage.Body 0 (suc (suc p))) s' ls e f.1)
count_events F w h n (stage.Body (suc c) p) s' (line.Cut d ∷ ls) e f = omega (arith, count_events F w h (suc n) (stage.Body c p) s' ls e f.1)
count_events F w h n stage.Done s' (l ∷ ls) e f = let none = step-done l in absurd cc
count_events F w h n s s' (l ∷ ls) e f = absurd cc

-- the events of lines that begin an answer are the first events of the answer
pub events_from-front : (F : Form) (w : Version) (a : WrittenAnswer) (s : Stage) (ls more : List Line) → run stage.Title ls ≡ Some s → FitsLines w F ls → ls ++ more ≡ answer_lines a
    → events_from no_head 1 ls ≡ take (length ls + 1 - suc (silent_lines F)) (events_of a)
events_from-front F w a s ls more due fits parts =
    grind (arith, events_from-append no_head 1 ls more, count_events F w no_head 1 stage.Title s ls due fits, take-append_seam (events_from no_head 1 ls) (events_from (head_from no_head ls) (1 + length ls) more))
