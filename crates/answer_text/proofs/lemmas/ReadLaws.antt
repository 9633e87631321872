-- What lines that were read one after another say of the bytes that they stand at the front of.
use Rattle.std.proofs.Common.{ℕ, suc, ◌≡◌, ◌+◌, ◌-◌, ◌<◌, List, [], ◌∷◌, ◌++◌, length, take, refl, sym, ap, subst, ◌∙◌, arith, append_assoc, length-append, Option, Some, inl, inr, ⊎_elim}
use Rattle.std.specs.Prelude.{option_and_then, ◌⊎◌}
use Rattle.std.proofs.lemmas.List.Concat.{flat_map-append}
use Rattle.text_in.specs.Words.{Lacks}
use Rattle.text_in.specs.Fronts.{front_unique, separator_missing}
use Rattle.answer_text.specs.AnswerLine.{Line}
use Rattle.answer_text.specs.declared.line.Stage.{Stage}
use Rattle.answer_text.specs.declared.line.Stage.TheVariants as stage
use Rattle.answer_text.specs.Value.{WrittenAnswer}
use Rattle.answer_text.specs.Spelling.{FitsAnswer, SpellsAnswer}
use Rattle.answer_text.specs.declared.version.Version.{Version}
use Rattle.answer_text.specs.declared.form.Form.{Form}
use Rattle.answer_text.specs.Forms.{first_version, silent_lines}
use Rattle.answer_text.specs.Lines.{line_bytes, line_text, lines_text, answer_lines, step, run}
use Rattle.answer_text.specs.LineFits.{FitsLine, FitsLines, IsLineRead, IsNoLine, version_with, version_from}
use Rattle.answer_text.specs.Events.{events_of, events_from, no_head}
use Rattle.answer_text.specs.Reading.{BeginsAnswer, line_feeds, IsReadWhole, StopsAt}
use Rattle.answer_text.proofs.lemmas.Machine.{run-append, answer_value}
use Rattle.answer_text.proofs.lemmas.Due.{run-answer, answer_fits, fits_append, end_of, run-end_of, end_of_fits}
use Rattle.answer_text.proofs.lemmas.LineTexts.{line_bytes-lacks, same_line, line_feeds-append, line_feeds-lacks, line_feeds-lines}
use Rattle.answer_text.proofs.lemmas.FormLemmas.{first_of, room_behind, version_behind}
use Rattle.answer_text.proofs.lemmas.EventLaws.{events_from-front}

-- ---- the lines of a text are determined by what is due

-- where something is due behind a line, the line was due
pub first_step : (more : Stage → Option Stage) (due : Option Stage) (s : Stage) → option_and_then more due ≡ Some s → (s' : Stage) × (due ≡ Some s') × (more s' ≡ Some s)
first_step more due s e = grind arith

-- lines behind others, and their text
pub record Behind (ls ms : List Line) (bytes : List ℕ) : Type 0 where
  pub rest : List Line
  pub lines : ms ≡ ls ++ rest
  pub text : bytes ≡ lines_text rest

-- the first line of some, and what follows it
pub line_split : (l : Line) (ls : List Line) (bytes : List ℕ) → lines_text (l ∷ ls) ++ bytes ≡ line_bytes l ++ 10 ∷ (lines_text ls ++ bytes)
line_split l ls bytes = append_assoc (line_text l) (lines_text ls) bytes ∙ append_assoc (line_bytes l) (10 ∷ []) (lines_text ls ++ bytes)

-- the first of lines that were due tells the first of others that were due, and the texts go on alike
pub record FirstLine (v : Version) (F : Form) (s' s'' : Stage) (l m : Line) (ls ms : List Line) (p q : List ℕ) : Type 0 where
  pub same : l ≡ m
  pub stage : Stage
  pub due : run stage ls ≡ Some s'
  pub due_too : run stage ms ≡ Some s''
  pub fits : FitsLines (version_with v l) F ms
  pub text : p ≡ q

pub first_line : (v : Version) (F : Form) (s s' s'' : Stage) (l m : Line) (ls ms : List Line) (p q : List ℕ) → run s (l ∷ ls) ≡ Some s' → run s (m ∷ ms) ≡ Some s''
    → FitsLines v F (l ∷ ls) → FitsLines v F (m ∷ ms) → line_bytes l ++ 10 ∷ p ≡ line_bytes m ++ 10 ∷ q → FirstLine v F s' s'' l m ls ms p q
first_line v F s s' s'' l m ls ms p q d e f g text =
    let (t, due, rest) = first_step (λ u. run u ls) (step s l) s' d in
    let (u, due', rest') = first_step (λ u. run u ms) (step s m) s'' e in
    let first = front_unique 10 (line_bytes l) (line_bytes m) p q (line_bytes-lacks (version_with v l) F l f.0) (line_bytes-lacks (version_with v m) F m g.0) text in
    let here = same_line v F s l m t u due due' f.0 g.0 first.0 in
    let stage_same : Some t ≡ Some u = sym due ∙ ap (step s) here ∙ due' in
    let same_stage : t ≡ u = cc in
    record {
      same = here;
      stage = t;
      due = rest;
      due_too = ap (λ x. run x ms) same_stage ∙ rest';
      fits = subst (λ x. FitsLines (version_with v x) F ms) (sym here) g.1;
      text = first.1;
    }

-- lines that were due at the front of the text of lines that were due are the first of them
lines_front : (v : Version) (F : Form) (s s' s'' : Stage) (ls ms : List Line) (bytes : List ℕ) → run s ls ≡ Some s' → run s ms ≡ Some s'' → FitsLines v F ls → FitsLines v F ms
    → lines_text ls ++ bytes ≡ lines_text ms → Behind ls ms bytes
lines_front v F s s' s'' [] ms bytes d e f g same = record { rest = ms; lines = refl; text = same }
lines_front v F s s' s'' (l ∷ ls) [] bytes d e f g same = absurd (grind (arith, line_split l ls bytes, length-append (line_bytes l) (10 ∷ (lines_text ls ++ bytes))))
lines_front v F s s' s'' (l ∷ ls) (m ∷ ms) bytes d e f g same =
    let regroup : line_bytes l ++ 10 ∷ (lines_text ls ++ bytes) ≡ line_bytes m ++ 10 ∷ lines_text ms =
    sym (line_split l ls bytes) ∙ same ∙ append_assoc (line_bytes m) (10 ∷ []) (lines_text ms) in
    let first = first_line v F s s' s'' l m ls ms (lines_text ls ++ bytes) (lines_text ms) d e f g regroup in
    let behind = lines_front (version_with v l) F first.stage s' s'' ls ms bytes first.due first.due_too f.1 first.fits first.text in
    record { rest = behind.rest; lines = λ i. sym first.same i ∷ behind.lines i; text = behind.text }

-- the lines of an answer whose text begins with lines that were due begin with them
pub answer_front : (F : Form) (s : Stage) (ls : List Line) (bytes behind : List ℕ) (a : WrittenAnswer) → run stage.Title ls ≡ Some s → FitsLines (first_version F) F ls
    → SpellsAnswer F bytes a → bytes ≡ lines_text ls ++ behind → Behind ls (answer_lines a) behind
answer_front F s ls bytes behind a due fits spells parts =
    lines_front (first_version F) F stage.Title s stage.Done ls (answer_lines a) behind due (run-answer a) fits (answer_fits (first_version F) F a spells.fits) (sym parts ∙ spells.spelled)

-- what is due behind lines that begin others up to the end
pub due_behind : (s : Stage) (ls rest ms : List Line) → run stage.Title ls ≡ Some s → run stage.Title ms ≡ Some stage.Done → ms ≡ ls ++ rest → run s rest ≡ Some stage.Done
due_behind s ls rest ms due whole parts = grind (arith, run-append)

-- ---- lines that begin an answer

-- they do
pub begins_answer : (F : Form) (s : Stage) (ls : List Line) → run stage.Title ls ≡ Some s → FitsLines (first_version F) F ls → BeginsAnswer F (lines_text ls)
begins_answer F s ls due fits =
    let v = version_from (first_version F) ls in
    let of = version_behind (first_version F) F ls fits (first_of F) in
    let room = room_behind (first_version F) F stage.Title s ls due fits tt in
    let more = end_of v F s in
    let whole : run stage.Title (ls ++ more) ≡ Some stage.Done =
    run-append stage.Title ls more ∙ ap (option_and_then (λ s'. run s' more)) due ∙ run-end_of v F s in
    let told = answer_value F (first_version F) (ls ++ more) whole (fits_append (first_version F) F ls more fits (end_of_fits v F s of room)) in
    record {
      rest = lines_text more;
      answer = told.answer;
      spells = record { fits = told.fits; spelled = sym (flat_map-append line_text ls more) ∙ ap lines_text told.lines };
    }

-- their events are the first events of each answer that begins with them
pub begun_events : (F : Form) (s : Stage) (ls : List Line) (rest : List ℕ) (a : WrittenAnswer) → run stage.Title ls ≡ Some s → FitsLines (first_version F) F ls → SpellsAnswer F (lines_text ls ++ rest) a
    → events_from no_head 1 ls ≡ take (length ls + 1 - suc (silent_lines F)) (events_of a)
begun_events F s ls rest a due fits spells =
    let behind = answer_front F s ls (lines_text ls ++ rest) rest a due fits spells refl in
    events_from-front F (first_version F) a s ls behind.rest due fits (sym behind.lines)

-- up to the end they spell one
pub read_whole : (F : Form) (ls : List Line) (bytes : List ℕ) → run stage.Title ls ≡ Some stage.Done → FitsLines (first_version F) F ls → bytes ≡ lines_text ls
    → IsReadWhole F bytes (events_from no_head 1 ls)
read_whole F ls bytes due fits text = grind (arith, answer_value)

-- bytes that stop behind lines of an answer
pub stops : (F : Form) (s : Stage) (ls : List Line) (bytes rest : List ℕ) → run stage.Title ls ≡ Some s → FitsLines (first_version F) F ls → bytes ≡ lines_text ls ++ rest
    → ((longer more : List ℕ) → bytes ≡ longer ++ more → BeginsAnswer F longer → line_feeds longer < length ls + 1)
    → ((a : WrittenAnswer) → SpellsAnswer F bytes a → ⊥) → StopsAt F bytes (length ls + 1) (events_from no_head 1 ls)
stops F s ls bytes rest due fits parts last unspelled =
    grind (arith, line_feeds-lines (first_version F) F ls fits, begins_answer F s ls due fits, begun_events)

-- ---- bytes whose last line is not ended

-- no line feed stands in an empty text only
no_lines : (ls : List Line) → Lacks (lines_text ls) 10 → ls ≡ []
no_lines [] lacks = refl
no_lines (l ∷ ls) lacks = absurd (separator_missing 10 (lines_text (l ∷ ls)) (line_bytes l) (lines_text ls) lacks (append_assoc (line_bytes l) (10 ∷ []) (lines_text ls)))

-- where they spell an answer, nothing is left and nothing is due
ended : (F : Form) (s : Stage) (ls : List Line) (bytes rest : List ℕ) (a : WrittenAnswer) → run stage.Title ls ≡ Some s → FitsLines (first_version F) F ls → bytes ≡ lines_text ls ++ rest → Lacks rest 10
    → SpellsAnswer F bytes a → (rest ≡ []) × (s ≡ stage.Done)
ended F s ls bytes rest a due fits parts lacks spells =
    let behind = answer_front F s ls bytes rest a due fits spells parts in
    let none = no_lines behind.rest (subst (λ x. Lacks x 10) behind.text lacks) in
    let last = due_behind s ls behind.rest (answer_lines a) due (run-answer a) behind.lines in
    let here : Some s ≡ Some stage.Done = sym (ap (run s) none) ∙ last in
    (behind.text ∙ ap lines_text none, cc)

-- the whole of them has as many line feeds as lines were read
pub stops_unended : (F : Form) (s : Stage) (ls : List Line) (bytes rest : List ℕ) → run stage.Title ls ≡ Some s → FitsLines (first_version F) F ls → bytes ≡ lines_text ls ++ rest → Lacks rest 10
    → ((rest ≡ []) → (s ≡ stage.Done) → ⊥) → StopsAt F bytes (length ls + 1) (events_from no_head 1 ls)
stops_unended F s ls bytes rest due fits parts lacks open_end = stops F s ls bytes rest due fits parts
    (λ longer more split begins.
    let one = ap line_feeds (sym split ∙ parts) in
    omega (arith, line_feeds-append longer more, line_feeds-append (lines_text ls) rest, line_feeds-lines (first_version F) F ls fits, line_feeds-lacks rest lacks))
    (λ a spells. let both = ended F s ls bytes rest a due fits parts lacks spells in open_end both.0 both.1)

-- ---- bytes with a line that was not due

-- a front of bytes with a mark in them ends before the mark or holds it
pub front_cases : (mark : ℕ) (front back before after : List ℕ) → front ++ back ≡ before ++ mark ∷ after
    → ((more : List ℕ) × (before ≡ front ++ more)) ⊎ ((more : List ℕ) × (front ≡ before ++ mark ∷ more))
front_cases mark [] back before after e = inl (before, refl)
front_cases mark (f ∷ front) back [] after e = let same : f ≡ mark = cc in inr (front, ap (λ x. x ∷ front) same)
front_cases mark (f ∷ front) back (b ∷ before) after e = grind (arith, front_cases mark front back before after cc)

-- a line behind others fits the version that they tell
pub fits_behind : (v : Version) (F : Form) (xs : List Line) (y : Line) (zs : List Line) → FitsLines v F (xs ++ y ∷ zs) → FitsLine (version_with (version_from v xs) y) F y
fits_behind v F [] y zs f = f.0
fits_behind v F (x ∷ xs) y zs f = fits_behind (version_with v x) F xs y zs f.1

-- the line of an answer that stands behind others was due
pub due_line : (F : Form) (s : Stage) (ls : List Line) (m : Line) (ms : List Line) (a : WrittenAnswer) → run stage.Title ls ≡ Some s → FitsAnswer F a → answer_lines a ≡ ls ++ m ∷ ms
    → (t : Stage) × IsLineRead (version_from (first_version F) ls) F s (line_bytes m) m t
due_line F s ls m ms a due fits lines =
    grind (arith, first_step, due_behind s ls (m ∷ ms) (answer_lines a) due (run-answer a) lines, fits_behind (first_version F) F ls m ms (subst (FitsLines (first_version F) F) lines (answer_fits (first_version F) F a fits)))

-- a line behind lines of an answer is one that was due
line_behind : (F : Form) (s : Stage) (ls rest : List Line) (line after : List ℕ) (a : WrittenAnswer) → run stage.Title ls ≡ Some s → FitsAnswer F a → answer_lines a ≡ ls ++ rest
    → line ++ 10 ∷ after ≡ lines_text rest → Lacks line 10 → IsNoLine (version_from (first_version F) ls) F s line → ⊥
line_behind F s ls [] line after a due fits lines text lacks none =
    let short = ap length text in omega (arith, length-append line (10 ∷ after))
line_behind F s ls (m ∷ ms) line after a due fits lines text lacks none =
    let read = (due_line F s ls m ms a due fits lines).1 in
    let first = front_unique 10 line (line_bytes m) after (lines_text ms) lacks (line_bytes-lacks (version_with (version_from (first_version F) ls) m) F m read.fits) (text ∙ append_assoc (line_bytes m) (10 ∷ []) (lines_text ms)) in
    none m (due_line F s ls m ms a due fits lines).0 read.fits read.due first.0

-- so no answer has the lines and then one that was not due
pub no_answer : (F : Form) (s : Stage) (ls : List Line) (bytes line after : List ℕ) (a : WrittenAnswer) → run stage.Title ls ≡ Some s → FitsLines (first_version F) F ls
    → SpellsAnswer F bytes a → bytes ≡ lines_text ls ++ (line ++ 10 ∷ after) → Lacks line 10 → IsNoLine (version_from (first_version F) ls) F s line → ⊥
no_answer F s ls bytes line after a due fits spells parts lacks none =
    let behind = answer_front F s ls bytes (line ++ 10 ∷ after) a due fits spells parts in
    line_behind F s ls behind.rest line after a due spells.fits behind.lines behind.text lacks none

-- the bytes stop in that line
pub stops_at_line : (F : Form) (s : Stage) (ls : List Line) (bytes line after : List ℕ) → run stage.Title ls ≡ Some s → FitsLines (first_version F) F ls → bytes ≡ lines_text ls ++ (line ++ 10 ∷ after)
    → Lacks line 10 → IsNoLine (version_from (first_version F) ls) F s line → StopsAt F bytes (length ls + 1) (events_from no_head 1 ls)
stops_at_line F s ls bytes line after due fits parts lacks none = stops F s ls bytes (line ++ 10 ∷ after) due fits parts
    (λ longer more split begins. ⊎_elim
    (λ (sooner : (x : List ℕ) × (lines_text ls ++ line ≡ longer ++ x)).
    let feeds = ap line_feeds sooner.1 in
    omega (arith, line_feeds-append longer sooner.0, line_feeds-append (lines_text ls) line, line_feeds-lines (first_version F) F ls fits, line_feeds-lacks line lacks))
    (λ (later : (x : List ℕ) × (longer ≡ (lines_text ls ++ line) ++ 10 ∷ x)).
    let whole : longer ++ begins.rest ≡ lines_text ls ++ (line ++ 10 ∷ (later.0 ++ begins.rest)) =
    ap (λ x. x ++ begins.rest) later.1 ∙ append_assoc (lines_text ls ++ line) (10 ∷ later.0) begins.rest ∙ append_assoc (lines_text ls) line (10 ∷ (later.0 ++ begins.rest)) in
    absurd (no_answer F s ls (longer ++ begins.rest) line (later.0 ++ begins.rest) begins.answer due fits begins.spells whole lacks none))
    (front_cases 10 longer more (lines_text ls ++ line) after (sym split ∙ parts ∙ sym (append_assoc (lines_text ls) line (10 ∷ after)))))
    (λ a spells. no_answer F s ls bytes line after a due fits spells parts lacks none)
