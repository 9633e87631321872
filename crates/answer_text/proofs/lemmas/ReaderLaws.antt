-- What a reader stands for behind one more byte.
use Rattle.std.proofs.Common.{ℕ, suc, zero, ◌≡◌, ◌≢◌, ◌+◌, ◌-◌, ◌<◌, ◌≤◌, List, [], ◌∷◌, ◌++◌, length, take, refl, sym, ap, subst, ◌∙◌, arith, append_assoc, length-append, Option, Some, ⊎_elim}
use Rattle.std.specs.Prelude.{option_and_then}
use Rattle.std.proofs.lemmas.List.{append-nil}
use Rattle.std.proofs.lemmas.List.Concat.{flat_map-append}
use Rattle.std.proofs.lemmas.List.Elements.{All-nil, All-push, All-append}
use Rattle.text_in.specs.Words.{Lacks}
use Rattle.text_in.specs.Fronts.{separator_missing}
use Rattle.answer_text.specs.declared.head.AnswerHead.{AnswerHead}
use Rattle.answer_text.specs.AnswerLine.{Line}
use Rattle.answer_text.specs.declared.line.Stage.{Stage}
use Rattle.answer_text.specs.declared.line.Stage.TheVariants as stage
use Rattle.answer_text.specs.declared.event.Event.{Event}
use Rattle.answer_text.specs.declared.event.AnswerEvent.{AnswerEvent}
use Rattle.answer_text.specs.declared.scan.Scan.TheVariants as scan
use Rattle.answer_text.specs.declared.reader.EventReader.{EventReader}
use Rattle.answer_text.specs.Value.{WrittenAnswer}
use Rattle.answer_text.specs.Spelling.{SpellsAnswer, FitsName}
use Rattle.answer_text.specs.LineKinds as line
use Rattle.answer_text.specs.declared.version.Version.{Version}
use Rattle.answer_text.specs.declared.form.Form.{Form}
use Rattle.answer_text.specs.declared.version.Version.TheVariants as version
use Rattle.answer_text.specs.Forms.{HasVertices, first_version, set_size, silent_lines}
use Rattle.answer_text.specs.Words.{version_number}
use Rattle.answer_text.specs.Lines.{answer_lines, body_lines, head_lines, line_bytes, line_text, lines_text, step, run}
use Rattle.answer_text.specs.LineFits.{FitsLine, FitsLines, IsLineRead, IsNoLine, version_with, version_from}
use Rattle.answer_text.specs.Events.{events_of, events_from, no_head, head_with, line_told, event_at}
use Rattle.answer_text.specs.Reading.{BeginsAnswer, line_feeds, StopsAt}
use Rattle.answer_text.specs.LinesRead.{ReadSoFar}
use Rattle.answer_text.specs.Given.{given}
use Rattle.answer_text.specs.Scanning.{Left, IsUnderway, IsSound, IsDead, IsNoLineLeft, IsNext, IsRun, Closes, first_scan}
use Rattle.answer_text.specs.Reader.{Reads, BeginsWith, CeasesAt, TellsVersion}
use Rattle.answer_text.proofs.lemmas.ReadSoFar.{read_none, read_more, fits_more}
use Rattle.answer_text.proofs.lemmas.ReadLaws.{begins_answer, begun_events, stops, stops_unended, stops_at_line, answer_front, front_cases, due_line, no_answer}
use Rattle.answer_text.proofs.lemmas.LineTexts.{line_feeds-append, line_feeds-lacks, line_feeds-lines}
use Rattle.answer_text.proofs.lemmas.Steps.{step-done}
use Rattle.answer_text.specs.declared.scan.Kept.{Kept}
use Rattle.answer_text.proofs.lemmas.FormLemmas.{first_of, room_behind, version_behind}
use Rattle.answer_text.proofs.lemmas.Machine.{run-append, answer_value}
use Rattle.answer_text.proofs.lemmas.ScanLines.{start_due, start_left}
use Rattle.answer_text.proofs.lemmas.ScanMore.{some_left, underway, underway-open}

-- ---- the first byte is due

-- what is kept of the lines that were read
kept_sound : (F : Form) (bytes rest : List ℕ) (s : Stage) (v : Version) (h : AnswerHead) (n : ℕ) (events : List AnswerEvent) (k : Kept) → ReadSoFar F bytes rest s v h n events → HasVertices F
    → IsSound k (first_scan F v s)
kept_sound F bytes rest s v h n events k so_far some =
    grind (arith, version_behind (first_version F) F so_far.lines so_far.fits (first_of F), room_behind (first_version F) F stage.Title s so_far.lines so_far.due so_far.fits tt)

-- a reader that was fed nothing
pub reads_none : (F : Form) (reader : EventReader) → HasVertices F → reader.form ≡ F → reader.kept.stage ≡ stage.Title → reader.kept.version ≡ first_version F
    → reader.scan ≡ first_scan F (first_version F) stage.Title → reader.head ≡ no_head → FitsName reader.kept.name → reader.line ≡ 1 → reader.fed ≡ 0 → length reader.kept.members ≡ set_size F
    → Reads F [] [] reader
reads_none F reader some form_is title version_is begins head name first none size =
    let scan_is : reader.scan ≡ first_scan F reader.kept.version reader.kept.stage = begins ∙ (λ i. first_scan F (sym version_is i) (sym title i)) in
    let so_far : ReadSoFar F [] [] reader.kept.stage reader.kept.version reader.head reader.line [] =
    subst (λ s. ReadSoFar F [] [] s reader.kept.version reader.head reader.line []) (sym title) (subst (λ v. ReadSoFar F [] [] stage.Title v reader.head reader.line []) (sym version_is)
    (subst (λ h. ReadSoFar F [] [] stage.Title (first_version F) h reader.line []) (sym head) (subst (λ n. ReadSoFar F [] [] stage.Title (first_version F) no_head n []) (sym first) (read_none F [])))) in
    record {
      begun = [];
      lines = so_far;
      unended = All-nil (λ b. b ≢ 10);
      due = λ rest l h. start_due F reader.kept reader.kept.version reader.kept.stage rest l size refl refl (subst (λ c. Left reader.kept c rest l) scan_is h);
      left = λ rest l s' read. subst (λ c. Left reader.kept c rest l) (sym scan_is) (start_left F reader.kept reader.kept.version reader.kept.stage s' rest l size refl refl read);
      sound = subst (IsSound reader.kept) (sym scan_is) (kept_sound F [] [] reader.kept.stage reader.kept.version reader.head reader.line [] reader.kept so_far some);
      name = name;
      at_end = λ e. ((grind arith), refl);
      count = none;
      form = form_is;
      some = some;
      vertices = size;
    }

-- ---- one more byte

-- a byte within a line
pub record GoesOn (old : EventReader) (byte : ℕ) (new : EventReader) : Type 0 where
  pub next : IsNext old.kept old.scan byte new.kept new.scan
  pub head : new.head ≡ old.head
  pub form : new.form ≡ old.form

-- bytes within a line
pub record RunsOn (old : EventReader) (bytes : List ℕ) (new : EventReader) : Type 0 where
  pub run : IsRun old.kept old.scan bytes new.kept new.scan
  pub head : new.head ≡ old.head
  pub form : new.form ≡ old.form

-- the byte at a line's end
pub record EndsLine (old : EventReader) (told : Option Event) (new : EventReader) : Type 0 where
  pub closes : Closes old.kept old.scan old.head new.kept new.head told
  pub next : new.scan ≡ first_scan old.form new.kept.version new.kept.stage
  pub line : new.line ≡ old.line + 1
  pub form : new.form ≡ old.form

-- the bytes so far and more of them
text_more : (lines begun bytes more : List ℕ) → bytes ≡ lines ++ begun → bytes ++ more ≡ lines ++ (begun ++ more)
text_more lines begun bytes more text = ap (λ x. x ++ more) text ∙ append_assoc lines begun more

so_far_more : (F : Form) (bytes begun more : List ℕ) (s : Stage) (v : Version) (h : AnswerHead) (n : ℕ) (events : List AnswerEvent) → ReadSoFar F bytes begun s v h n events
    → ReadSoFar F (bytes ++ more) (begun ++ more) s v h n events
so_far_more F bytes begun more s v h n events r = record {
  lines = r.lines;
  fits = r.fits;
  due = r.due;
  text = text_more (lines_text r.lines) begun bytes more r.text;
  told = r.told;
  version_told = r.version_told;
  head_told = r.head_told;
  count = r.count;
}

-- what was read of a line and one more byte
begun_more : (begun : List ℕ) (b : ℕ) (rest : List ℕ) → begun ++ b ∷ rest ≡ (begun ++ b ∷ []) ++ rest
begun_more begun b rest = sym (append_assoc begun (b ∷ []) rest)

-- bytes within a line
pub reads_run : (F : Form) (bytes : List ℕ) (events : List AnswerEvent) (more : List ℕ) (old new : EventReader) → Reads F bytes events old → RunsOn old more new → new.line ≡ old.line → new.fed ≡ old.fed + length more
    → Reads F (bytes ++ more) events new
reads_run F bytes events more old new r on line fed =
    let run = on.run in
    let P : Stage → Version → AnswerHead → ℕ → Type 0 = λ s v h n. ReadSoFar F (bytes ++ more) (r.begun ++ more) s v h n events in
    let lines : P new.kept.stage new.kept.version new.head new.line =
    subst (λ s. P s new.kept.version new.head new.line) (sym run.stage) (subst (λ v. P old.kept.stage v new.head new.line) (sym run.version)
    (subst (λ h. P old.kept.stage old.kept.version h new.line) (sym on.head) (subst (λ n. P old.kept.stage old.kept.version old.head n) (sym line)
    (so_far_more F bytes r.begun more old.kept.stage old.kept.version old.head old.line events r.lines)))) in
    let Read : Version → Stage → List ℕ → Line → Stage → Type 0 = λ v s x l s'. IsLineRead v F s x l s' in
    record {
      begun = r.begun ++ more;
      lines = lines;
      unended = All-append (λ c. c ≢ 10) r.begun more r.unended run.within;
      due = λ rest l h.
          let read = r.due (more ++ rest) l (run.leads.back rest l h) in (
            read.0,
            subst (λ x. Read new.kept.version new.kept.stage x l read.0) (sym (append_assoc r.begun more rest))
                (subst (λ v. Read v new.kept.stage (r.begun ++ (more ++ rest)) l read.0) (sym run.version) (subst (λ s. Read old.kept.version s (r.begun ++ (more ++ rest)) l read.0) (sym run.stage) read.1)),
          );
      left = λ rest l s' read.
          run.leads.on rest l (r.left (more ++ rest) l s' (subst (λ s. Read old.kept.version s (r.begun ++ (more ++ rest)) l s') run.stage
          (subst (λ v. Read v new.kept.stage (r.begun ++ (more ++ rest)) l s') run.version (subst (λ x. Read new.kept.version new.kept.stage x l s') (append_assoc r.begun more rest) read))));
      sound = grind arith;
      name = run.name;
      at_end = λ e. absurd (underway-open new.kept new.scan e run.sound);
      count = fed ∙ ap (λ n. n + length more) r.count ∙ sym (length-append bytes more);
      form = on.form ∙ r.form;
      some = r.some;
      vertices = run.size ∙ r.vertices;
    }

-- a byte within a line
pub reads_on : (F : Form) (bytes : List ℕ) (events : List AnswerEvent) (b : ℕ) (old new : EventReader) → Reads F bytes events old → (b ≡ 10 → ⊥) → GoesOn old b new → new.line ≡ old.line → new.fed ≡ old.fed + 1
    → Reads F (bytes ++ b ∷ []) events new
reads_on F bytes events b old new r other on line fed = grind (arith, All-push, All-nil, reads_run)

pub reads_line : (F : Form) (bytes : List ℕ) (events : List AnswerEvent) (old new : EventReader) (told : Option Event) → Reads F bytes events old → EndsLine old told new → new.fed ≡ old.fed + 1
    → Reads F (bytes ++ 10 ∷ []) (events ++ given old.line told new.kept.members) new
reads_line F bytes events old new told r ends fed =
    let closes = ends.closes in
    let due = r.due [] closes.line closes.left in
    let read : IsLineRead old.kept.version F old.kept.stage r.begun closes.line due.0 = subst (λ x. IsLineRead old.kept.version F old.kept.stage x closes.line due.0) (append-nil r.begun) due.1 in
    let whole = read_more F (bytes ++ 10 ∷ []) (r.begun ++ 10 ∷ []) [] r.begun old.kept.stage due.0 old.kept.version old.head old.line events closes.line
    (so_far_more F bytes r.begun (10 ∷ []) old.kept.stage old.kept.version old.head old.line events r.lines) refl read in
    let stage_is : new.kept.stage ≡ due.0 = closes.stage due.0 read.due in
    let event_is : event_at old.line (line_told (head_with old.head closes.line) closes.line) ≡ given old.line told new.kept.members =
    ap (λ h. event_at old.line (line_told h closes.line)) (sym closes.head) ∙ closes.event old.line in
    let told_now = given old.line told new.kept.members in
    let P : Stage → Version → AnswerHead → ℕ → List AnswerEvent → Type 0 = λ s v h n es. ReadSoFar F (bytes ++ 10 ∷ []) [] s v h n (events ++ es) in
    let lines : P new.kept.stage new.kept.version new.head new.line told_now =
    subst (λ s. P s new.kept.version new.head new.line told_now) (sym stage_is)
    (subst (λ v. P due.0 v new.head new.line told_now) (sym closes.version)
    (subst (λ h. P due.0 (version_with old.kept.version closes.line) h new.line told_now) (sym closes.head)
    (subst (λ n. P due.0 (version_with old.kept.version closes.line) (head_with old.head closes.line) n told_now) (sym ends.line)
    (subst (λ es. P due.0 (version_with old.kept.version closes.line) (head_with old.head closes.line) (old.line + 1) es) event_is whole)))) in
    let size : length new.kept.members ≡ set_size F = ap length closes.members ∙ r.vertices in
    let next : new.scan ≡ first_scan F new.kept.version new.kept.stage = ends.next ∙ ap (λ G. first_scan G new.kept.version new.kept.stage) r.form in
    record {
      begun = [];
      lines = lines;
      unended = All-nil (λ b. b ≢ 10);
      due = λ rest l h. start_due F new.kept new.kept.version new.kept.stage rest l size refl refl (subst (λ c. Left new.kept c rest l) next h);
      left = λ rest l s' read'. subst (λ c. Left new.kept c rest l) (sym next) (start_left F new.kept new.kept.version new.kept.stage s' rest l size refl refl read');
      sound = subst (IsSound new.kept) (sym next) (kept_sound F (bytes ++ 10 ∷ []) [] new.kept.stage new.kept.version new.head new.line (events ++ told_now) new.kept lines r.some);
      name = closes.name;
      at_end = λ e. ((grind arith), refl);
      count = fed ∙ ap (λ n. n + 1) r.count ∙ sym (length-append bytes (10 ∷ []));
      form = ends.form ∙ r.form;
      some = r.some;
      vertices = size;
    }

-- ---- a byte with which no answer begins

-- bytes in a line that no line that is due begins with
within_line : (line front more after : List ℕ) → Lacks front 10 → line ++ 10 ∷ after ≡ front ++ more → (rest : List ℕ) × (line ≡ front ++ rest)
within_line line front more after lacks e = ⊎_elim
    (λ (inside : (x : List ℕ) × (line ≡ front ++ x)). inside)
    (λ (past : (x : List ℕ) × (front ≡ line ++ 10 ∷ x)). absurd (separator_missing 10 front line past.0 lacks past.1))
    (front_cases 10 front more line after (sym e))

line_due : (F : Form) (s : Stage) (ls rest : List Line) (front more : List ℕ) (a : WrittenAnswer) → run stage.Title ls ≡ Some s → SpellsAnswer F (lines_text ls ++ (front ++ more)) a → answer_lines a ≡ ls ++ rest
    → front ++ more ≡ lines_text rest → 0 < length front → Lacks front 10 → ((x : List ℕ) (l : Line) (s' : Stage) → IsLineRead (version_from (first_version F) ls) F s (front ++ x) l s' → ⊥) → ⊥
line_due F s ls [] front more a due spells lines text some lacks dead = let short = ap length text in omega (arith, length-append front more)
line_due F s ls (m ∷ ms) front more a due spells lines text some lacks dead =
    let (t, read) = due_line F s ls m ms a due spells.fits lines in
    let inside = within_line (line_bytes m) front more (lines_text ms) lacks (sym (append_assoc (line_bytes m) (10 ∷ []) (lines_text ms)) ∙ sym text) in
    dead inside.0 m t (record { told = sym inside.1; fits = read.fits; due = read.due })

no_answer_on : (F : Form) (s : Stage) (ls : List Line) (bytes front more : List ℕ) (a : WrittenAnswer) → run stage.Title ls ≡ Some s → FitsLines (first_version F) F ls → SpellsAnswer F bytes a
    → bytes ≡ lines_text ls ++ (front ++ more) → 0 < length front → Lacks front 10 → ((x : List ℕ) (l : Line) (s' : Stage) → IsLineRead (version_from (first_version F) ls) F s (front ++ x) l s' → ⊥) → ⊥
no_answer_on F s ls bytes front more a due fits spells parts some lacks dead =
    grind (arith, answer_front F s ls bytes (front ++ more) a due fits spells parts, line_due)

-- what a byte makes of the bytes
mid_byte : (ls begun : List ℕ) (b : ℕ) (rest : List ℕ) → (ls ++ begun) ++ b ∷ rest ≡ ls ++ ((begun ++ b ∷ []) ++ rest)
mid_byte ls begun b rest = append_assoc ls begun (b ∷ rest) ∙ ap (λ x. ls ++ x) (sym (append_assoc begun (b ∷ []) rest))

ceases_within : (F : Form) (s : Stage) (ls : List Line) (begun : List ℕ) (b : ℕ) → run stage.Title ls ≡ Some s → FitsLines (first_version F) F ls → Lacks (begun ++ b ∷ []) 10
    → ((x : List ℕ) (l : Line) (s' : Stage) → IsLineRead (version_from (first_version F) ls) F s ((begun ++ b ∷ []) ++ x) l s' → ⊥) → CeasesAt F (lines_text ls ++ begun) b (length ls + 1) (events_from no_head 1 ls)
ceases_within F s ls begun b due fits lacks dead =
    let some : 0 < length (begun ++ b ∷ []) = omega (arith, length-append begun (b ∷ [])) in
    record {
      ceased = λ begins.
          let parts : ((lines_text ls ++ begun) ++ b ∷ []) ++ begins.rest ≡ lines_text ls ++ ((begun ++ b ∷ []) ++ begins.rest) =
          append_assoc (lines_text ls ++ begun) (b ∷ []) begins.rest ∙ mid_byte (lines_text ls) begun b begins.rest in
          no_answer_on F s ls (((lines_text ls ++ begun) ++ b ∷ []) ++ begins.rest) (begun ++ b ∷ []) begins.rest begins.answer due fits begins.spells parts some lacks dead;
      stops = λ rest. stops F s ls ((lines_text ls ++ begun) ++ b ∷ rest) (begun ++ b ∷ rest) due fits (append_assoc (lines_text ls) begun (b ∷ rest))
          (λ longer more split begins. ⊎_elim
          (λ (sooner : (x : List ℕ) × (lines_text ls ++ begun ≡ longer ++ x)).
          let feeds = ap line_feeds sooner.1 in
          omega (arith, line_feeds-append longer sooner.0, line_feeds-append (lines_text ls) begun, line_feeds-lines (first_version F) F ls fits, line_feeds-append begun (b ∷ []), line_feeds-lacks (begun ++ b ∷ []) lacks))
          (λ (later : (x : List ℕ) × (longer ≡ (lines_text ls ++ begun) ++ b ∷ x)).
          let parts : longer ++ begins.rest ≡ lines_text ls ++ ((begun ++ b ∷ []) ++ (later.0 ++ begins.rest)) =
          ap (λ x. x ++ begins.rest) later.1 ∙ append_assoc (lines_text ls ++ begun) (b ∷ later.0) begins.rest ∙ mid_byte (lines_text ls) begun b (later.0 ++ begins.rest) in
          absurd (no_answer_on F s ls (longer ++ begins.rest) (begun ++ b ∷ []) (later.0 ++ begins.rest) begins.answer due fits begins.spells parts some lacks dead))
          (front_cases b longer more (lines_text ls ++ begun) rest (sym split)))
          (λ a spells. no_answer_on F s ls ((lines_text ls ++ begun) ++ b ∷ rest) (begun ++ b ∷ []) rest a due fits spells (mid_byte (lines_text ls) begun b rest) some lacks dead);
    }

-- a byte within a line
pub ceases_on : (F : Form) (bytes : List ℕ) (events : List AnswerEvent) (b : ℕ) (reader : EventReader) → Reads F bytes events reader → (b ≡ 10 → ⊥) → (IsSound reader.kept reader.scan → IsDead reader.kept reader.scan b)
    → CeasesAt F bytes b reader.line events
ceases_on F bytes events b reader r other dead =
    let so_far = r.lines in
    let within = ceases_within F reader.kept.stage so_far.lines r.begun b so_far.due so_far.fits (All-push (λ c. c ≢ 10) r.begun b r.unended other)
    (λ x l s' read.
    let here = subst (λ y. IsLineRead (version_from (first_version F) so_far.lines) F reader.kept.stage y l s') (sym (begun_more r.begun b x)) read in
    dead r.sound x l (r.left (b ∷ x) l s' (subst (λ v. IsLineRead v F reader.kept.stage (r.begun ++ b ∷ x) l s') (sym so_far.version_told) here))) in
    subst (λ n. CeasesAt F bytes b n events) (sym so_far.count) (subst (λ es. CeasesAt F bytes b (length so_far.lines + 1) es) (sym so_far.told) (subst (λ x. CeasesAt F x b (length so_far.lines + 1) (events_from no_head 1 so_far.lines)) (sym so_far.text) within))

-- a line feed
ceases_line : (F : Form) (s : Stage) (ls : List Line) (begun : List ℕ) → run stage.Title ls ≡ Some s → FitsLines (first_version F) F ls → Lacks begun 10 → IsNoLine (version_from (first_version F) ls) F s begun
    → CeasesAt F (lines_text ls ++ begun) 10 (length ls + 1) (events_from no_head 1 ls)
ceases_line F s ls begun due fits lacks none = record {
  ceased = λ begins.
      let parts : ((lines_text ls ++ begun) ++ 10 ∷ []) ++ begins.rest ≡ lines_text ls ++ (begun ++ 10 ∷ begins.rest) =
      append_assoc (lines_text ls ++ begun) (10 ∷ []) begins.rest ∙ append_assoc (lines_text ls) begun (10 ∷ begins.rest) in
      no_answer F s ls (((lines_text ls ++ begun) ++ 10 ∷ []) ++ begins.rest) begun begins.rest begins.answer due fits begins.spells parts lacks none;
  stops = λ rest. stops_at_line F s ls ((lines_text ls ++ begun) ++ 10 ∷ rest) begun rest due fits (append_assoc (lines_text ls) begun (10 ∷ rest)) lacks none;
}

pub ceases_end : (F : Form) (bytes : List ℕ) (events : List AnswerEvent) (reader : EventReader) → Reads F bytes events reader → (IsSound reader.kept reader.scan → IsNoLineLeft reader.kept reader.scan)
    → CeasesAt F bytes 10 reader.line events
ceases_end F bytes events reader r none =
    let so_far = r.lines in
    let at_line = ceases_line F reader.kept.stage so_far.lines r.begun so_far.due so_far.fits r.unended
    (λ l s' fits due told.
    let here = subst (λ v. FitsLine (version_with v l) F l) (sym so_far.version_told) fits in
    none r.sound l s' (r.left [] l s' (record { told = append-nil r.begun ∙ told; fits = here; due = due })) due) in
    subst (λ n. CeasesAt F bytes 10 n events) (sym so_far.count) (subst (λ es. CeasesAt F bytes 10 (length so_far.lines + 1) es) (sym so_far.told) (subst (λ x. CeasesAt F x 10 (length so_far.lines + 1) (events_from no_head 1 so_far.lines)) (sym so_far.text) at_line))

-- ---- the end

-- the lines of an answer are more than those of a head
head_long : (v : Version) (h : AnswerHead) (ls : List Line) → 5 + length ls ≤ length (head_lines v h ++ ls)
head_long version.One h ls = omega arith
head_long version.Two h ls = omega arith
head_long version.Graph h ls = omega arith

answer_long : (a : WrittenAnswer) → 6 ≤ length (answer_lines a)
answer_long a = let long = head_long a.version a.head (body_lines a) in omega arith

-- the head was read then
pub ended_headed : (F : Form) (bytes : List ℕ) (events : List AnswerEvent) (reader : EventReader) → Reads F bytes events reader → reader.scan ≡ scan.Ended → 6 < reader.line
ended_headed F bytes events reader r is = grind (arith, answer_value, r.at_end, answer_long)

-- nothing is due behind the end
done_dead : (v : Version) (F : Form) (s s' : Stage) (bytes : List ℕ) (l : Line) → IsLineRead v F s bytes l s' → s ≡ stage.Done → ⊥
done_dead v F s s' bytes l read is = let due : step stage.Done l ≡ Some s' = ap (λ x. step x l) (sym is) ∙ read.due in let none = step-done l in absurd cc

-- the line that a reader in a line may come to
underway_line : (F : Form) (bytes : List ℕ) (events : List AnswerEvent) (reader : EventReader) → (r : Reads F bytes events reader) → IsUnderway reader.kept reader.scan
    → (rest : List ℕ) × (l : Line) × (s' : Stage) × IsLineRead reader.kept.version F reader.kept.stage (r.begun ++ rest) l s'
underway_line F bytes events reader r sound =
    grind (arith, r.due (some_left reader.kept reader.scan sound r.name).0 (some_left reader.kept reader.scan sound r.name).1 (some_left reader.kept reader.scan sound r.name).2)

-- short of the end the bytes stop in their last line
pub unended_stops : (F : Form) (bytes : List ℕ) (events : List AnswerEvent) (reader : EventReader) → Reads F bytes events reader → (reader.scan ≡ scan.Ended → ⊥) → StopsAt F bytes reader.line events
unended_stops F bytes events reader r open_end =
    let so_far = r.lines in
    let stopped = stops_unended F reader.kept.stage so_far.lines bytes r.begun so_far.due so_far.fits so_far.text r.unended
    (λ none done. ⊎_elim
    (λ (over : reader.scan ≡ scan.Ended). open_end over)
    (λ (sound : IsUnderway reader.kept reader.scan).
    let more = underway_line F bytes events reader r sound in
    done_dead reader.kept.version F reader.kept.stage more.2 (r.begun ++ more.0) more.1 more.3 done)
    (underway reader.kept reader.scan r.sound)) in
    subst (λ n. StopsAt F bytes n events) (sym so_far.count) (subst (λ es. StopsAt F bytes (length so_far.lines + 1) es) (sym so_far.told) stopped)

-- ---- what the bytes of a reader begin

-- what begins an answer with more behind it begins one
begins_shorter : (F : Form) (bytes more whole : List ℕ) → bytes ++ more ≡ whole → BeginsAnswer F whole → BeginsAnswer F bytes
begins_shorter F bytes more whole parts begins =
    record { rest = more ++ begins.rest; answer = begins.answer; spells = subst (λ x. SpellsAnswer F x begins.answer) (ap (λ x. x ++ begins.rest) (sym parts) ∙ append_assoc bytes more begins.rest) begins.spells }

-- a line that is due goes on with lines that were
begins_with_line : (v : Version) (F : Form) (s s' : Stage) (ls : List Line) (begun rest : List ℕ) (l : Line) → run stage.Title ls ≡ Some s → v ≡ version_from (first_version F) ls → FitsLines (first_version F) F ls
    → IsLineRead v F s (begun ++ rest) l s' → BeginsAnswer F (lines_text ls ++ begun)
begins_with_line v F s s' ls begun rest l due is fits read =
    let whole = begins_answer F s' (ls ++ l ∷ []) (run-append stage.Title ls (l ∷ []) ∙ ap (option_and_then (λ u. run u (l ∷ []))) due ∙ ap (option_and_then (λ u. Some u)) read.due) (fits_more v F ls l is fits read.fits) in
    let line_is : begun ++ (rest ++ 10 ∷ []) ≡ lines_text (l ∷ []) = sym (append_assoc begun rest (10 ∷ [])) ∙ ap (λ x. x ++ 10 ∷ []) read.told ∙ sym (append-nil (line_text l)) in
    begins_shorter F (lines_text ls ++ begun) (rest ++ 10 ∷ []) (lines_text (ls ++ l ∷ []))
    (append_assoc (lines_text ls) begun (rest ++ 10 ∷ []) ∙ ap (λ x. lines_text ls ++ x) line_is ∙ sym (flat_map-append line_text ls (l ∷ []))) whole

-- how many line feeds the bytes have
pub line_count : (F : Form) (bytes : List ℕ) (events : List AnswerEvent) (reader : EventReader) → Reads F bytes events reader → reader.line ≡ line_feeds bytes + 1
line_count F bytes events reader r =
    grind (arith, line_feeds-append (lines_text (r.lines).lines) r.begun, line_feeds-lines (first_version F) F (r.lines).lines (r.lines).fits, line_feeds-lacks r.begun r.unended)

pub reads_begin : (F : Form) (bytes : List ℕ) (events : List AnswerEvent) (reader : EventReader) → Reads F bytes events reader → BeginsWith F bytes events
reads_begin F bytes events reader r =
    let so_far = r.lines in
    record {
      begins = ⊎_elim
          (λ (over : reader.scan ≡ scan.Ended).
          let text : lines_text so_far.lines ≡ bytes = sym (so_far.text ∙ ap (λ x. lines_text so_far.lines ++ x) (r.at_end over).1 ∙ append-nil (lines_text so_far.lines)) in
          subst (BeginsAnswer F) text (begins_answer F reader.kept.stage so_far.lines so_far.due so_far.fits))
          (λ (sound : IsUnderway reader.kept reader.scan).
          let more = underway_line F bytes events reader r sound in
          subst (BeginsAnswer F) (sym so_far.text) (begins_with_line reader.kept.version F reader.kept.stage more.2 so_far.lines r.begun more.0 more.1 so_far.due so_far.version_told so_far.fits more.3))
          (underway reader.kept reader.scan r.sound);
      told = λ rest answer spells.
          let parts : bytes ++ rest ≡ lines_text so_far.lines ++ (r.begun ++ rest) = ap (λ x. x ++ rest) so_far.text ∙ append_assoc (lines_text so_far.lines) r.begun rest in
          let first = begun_events F reader.kept.stage so_far.lines (r.begun ++ rest) answer so_far.due so_far.fits (subst (λ x. SpellsAnswer F x answer) parts spells) in
          let count : length so_far.lines + 1 - suc (silent_lines F) ≡ line_feeds bytes - silent_lines F = (let line_is = line_count F bytes events reader r in let number = so_far.count in omega arith) in
          so_far.told ∙ first ∙ ap (λ n. take n (events_of answer)) count;
    }

-- ---- the version

-- behind the title no line tells a version
version_kept : (v : Version) (s s' : Stage) (ls : List Line) → (s ≡ stage.Title → ⊥) → run s ls ≡ Some s' → version_from v ls ≡ v
version_kept v s s' [] other e = refl
version_kept v stage.Title s' (l ∷ ls) other e = absurd (other refl)
version_kept v stage.Length s' (line.Length m ∷ ls) other e = version_kept v stage.Bound s' ls (λ i. cc) e
version_kept v stage.Bound s' (line.Bound m ∷ ls) other e = version_kept v stage.Status s' ls (λ i. cc) e
version_kept v stage.Status s' (line.Status b ∷ ls) other e = version_kept v stage.Openings s' ls (λ i. cc) e
version_kept v stage.Openings s' (line.Openings m ∷ ls) other e = version_kept v stage.Concat s' ls (λ i. cc) e
version_kept v stage.Openings s' (line.LastOpenings m ∷ ls) other e = version_kept v stage.Count s' ls (λ i. cc) e
version_kept v stage.Concat s' (line.Concat c ∷ ls) other e = version_kept v stage.Count s' ls (λ i. cc) e
version_kept v stage.Count s' (line.Count m ∷ ls) other e = version_kept v (stage.Edges m) s' ls (λ i. cc) e
version_kept v (stage.Edges zero) s' (line.Tree ∷ ls) other e = version_kept v (stage.Body 0 1) s' ls (λ i. cc) e
version_kept v (stage.Edges (suc k)) s' (line.Edge d ∷ ls) other e = version_kept v (stage.Edges k) s' ls (λ i. cc) e
version_kept v (stage.Body zero zero) s' (line.End ∷ ls) other e = version_kept v stage.Done s' ls (λ i. cc) e
version_kept v (stage.Body zero (suc p)) s' (line.Leaf m ∷ ls) other e = version_kept v (stage.Body m p) s' ls (λ i. cc) e
version_kept v (stage.Body zero (suc p)) s' (line.Split d ∷ ls) other e = version_kept v (stage.Body 0 (suc (suc p))) s' ls (λ i. cc) e
version_kept v (stage.Body zero (suc p)) s' (line.SplitEdge d ∷ ls) other e = version_kept v (stage.Body 0 (suc (suc p))) s' ls (λ i. cc) e
version_kept v (stage.Body zero (suc p)) s' (line.SplitVertex d ∷ ls) other e = version_kept v (stage.Body 0 (suc (suc p))) s' ls (λ i. cc) e
version_kept v (stage.Body (suc c) p) s' (line.Cut d ∷ ls) other e = version_kept v (stage.Body c p) s' ls (λ i. cc) e
version_kept v stage.Done s' (l ∷ ls) other e = let none = step-done l in absurd cc
version_kept v s s' (l ∷ ls) other e = absurd cc

-- lines of an answer, of which the title is one, tell its version
title_version : (w : Version) (s : Stage) (ls rest : List Line) (a : WrittenAnswer) → run stage.Title ls ≡ Some s → 0 < length ls → answer_lines a ≡ ls ++ rest → version_from w ls ≡ a.version
title_version w s [] rest a due some lines = absurd (omega arith)
title_version w s (l ∷ ls) rest a due some lines = grind (arith, version_kept)

pub version_told : (F : Form) (bytes : List ℕ) (events : List AnswerEvent) (reader : EventReader) → Reads F bytes events reader → 6 < reader.line → TellsVersion F bytes (version_number reader.kept.version)
version_told F bytes events reader r headed rest answer spells =
    let so_far = r.lines in
    let number = so_far.count in
    let parts : bytes ++ rest ≡ lines_text so_far.lines ++ (r.begun ++ rest) = ap (λ x. x ++ rest) so_far.text ∙ append_assoc (lines_text so_far.lines) r.begun rest in
    let behind = answer_front F reader.kept.stage so_far.lines (bytes ++ rest) (r.begun ++ rest) answer so_far.due so_far.fits spells parts in
    ap version_number (so_far.version_told ∙ title_version (first_version F) reader.kept.stage so_far.lines behind.rest answer so_far.due (omega arith) behind.lines)
