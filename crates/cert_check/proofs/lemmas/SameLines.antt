-- Bytes determine their lines, and the line in which they cease to begin an answer.
use Rattle.std.proofs.Common.{ℕ, zero, suc, ◌≡◌, ◌<◌, ◌≤◌, List, [], ◌∷◌, ◌++◌, ◌-◌, take, ◌⊎◌, inl, inr, refl, sym, ap, ◌∙◌, subst, arith, append_assoc}
use Rattle.std.proofs.lemmas.Bool.{cases_lt}
use Rattle.std.proofs.lemmas.List.{take-append-drop}
use Rattle.answer_text.specs.declared.event.AnswerEvent.{AnswerEvent}
use Rattle.answer_text.specs.declared.form.Form.{Form}
use Rattle.answer_text.specs.Forms.{silent_lines}
use Rattle.answer_text.specs.Value.{WrittenAnswer}
use Rattle.answer_text.specs.Spelling.{SpellsAnswer, OneReading}
use Rattle.answer_text.specs.Events.{events_of}
use Rattle.answer_text.specs.Reading.{BeginsAnswer, line_feeds, StopsAt}
use Rattle.cert_check.specs.Lines.{Behind, ReadsLines, TellsFront}
use Rattle.cert_check.specs.Lines.Behind.{Ended, Ceased, Further}

-- of two fronts of the same bytes one begins the other
fronts : (xs ys us vs : List ℕ) → xs ++ us ≡ ys ++ vs → ((more : List ℕ) × (ys ≡ xs ++ more)) ⊎ ((more : List ℕ) × (xs ≡ ys ++ more))
fronts [] ys us vs same = inl (ys, refl)
fronts (x ∷ xs) [] us vs same = inr (x ∷ xs, refl)
fronts (x ∷ xs) (y ∷ ys) us vs same = grind (arith, fronts xs ys us vs (cc))

-- bytes cease to begin an answer in no later line than another front's
stops_no_later : (F : Form) (bytes : List ℕ) (n n' : ℕ) (es es' : List AnswerEvent) → StopsAt F bytes n es → StopsAt F bytes n' es' → n ≤ n'
stops_no_later F bytes n n' es es' stops stops' =
    grind (arith, stops'.last stops.front stops.back stops.parts stops.begins)

-- the events before a line are those of each answer which begins with a longer front
told_by_longer : (F : Form) (bytes : List ℕ) (n : ℕ) (es es' : List AnswerEvent) (stops : StopsAt F bytes n es) (stops' : StopsAt F bytes n es') (more : List ℕ) → stops'.front ≡ stops.front ++ more → es ≡ es'
told_by_longer F bytes n es es' stops stops' more is =
    grind (arith, append_assoc stops.front more (stops'.begins.rest), stops'.told (stops'.begins.rest) (stops'.begins.answer) stops'.begins.spells)

-- the line and the events before it
same_stop_at : (F : Form) (bytes : List ℕ) (n : ℕ) (es es' : List AnswerEvent) → StopsAt F bytes n es → StopsAt F bytes n es' → es ≡ es'
same_stop_at F bytes n es es' stops stops' =
    elim (fronts stops.front stops'.front stops.back stops'.back (sym stops.parts ∙ stops'.parts)) [
      | inl (more, is) ↦ told_by_longer F bytes n es es' stops stops' more is
      | inr (more, is) ↦ sym (told_by_longer F bytes n es' es stops' stops more is)
    ]

same_stop : (F : Form) (bytes : List ℕ) (n n' : ℕ) (es es' : List AnswerEvent) → StopsAt F bytes n es → StopsAt F bytes n' es' → (n ≡ n') × (es ≡ es')
same_stop F bytes n n' es es' stops stops' =
    let same : n ≡ n' = omega (arith, stops_no_later F bytes n n' es es' stops stops', stops_no_later F bytes n' n es' es stops' stops) in
    (same, same_stop_at F bytes n' es es' (subst (λ k. StopsAt F bytes k es) same stops) stops')

-- ---- fronts of the bytes

-- the first events of each answer that begins with a front of the bytes
record TellsFirst (F : Form) (bytes : List ℕ) (events : List AnswerEvent) (count : ℕ) : Type 0 where
  front : List ℕ
  back : List ℕ
  parts : bytes ≡ front ++ back
  begins : BeginsAnswer F front
  told : (rest : List ℕ) (answer : WrittenAnswer) → SpellsAnswer F (front ++ rest) answer → events ≡ take count (events_of answer)

first_of_front : (F : Form) (bytes : List ℕ) (events : List AnswerEvent) (tells : TellsFront F bytes events) → TellsFirst F bytes events (line_feeds tells.front - silent_lines F)
first_of_front F bytes events tells = grind arith

first_of_stop : (F : Form) (bytes : List ℕ) (n : ℕ) (events : List AnswerEvent) → StopsAt F bytes n events → TellsFirst F bytes events (n - suc (silent_lines F))
first_of_stop F bytes n events stops = grind arith

-- one answer begins with both of two fronts
both_first : (F : Form) (bytes : List ℕ) (es es' : List AnswerEvent) (k k' : ℕ) → TellsFirst F bytes es k → TellsFirst F bytes es' k' →
    (all : List AnswerEvent) × (es ≡ take k all) × (es' ≡ take k' all)
both_first F bytes es es' k k' first first' =
    elim (fronts first.front first'.front first.back first'.back (sym first.parts ∙ first'.parts)) [
      | inl (more, is) ↦
          let rest = first'.begins.rest in
          let answer = first'.begins.answer in
          let spells : SpellsAnswer F (first.front ++ (more ++ rest)) answer =
          subst (λ xs. SpellsAnswer F xs answer) (ap (λ xs. xs ++ rest) is ∙ append_assoc first.front more rest) first'.begins.spells in
          (events_of answer, first.told (more ++ rest) answer spells, first'.told rest answer first'.begins.spells)
      | inr (more, is) ↦
          let rest = first.begins.rest in
          let answer = first.begins.answer in
          let spells : SpellsAnswer F (first'.front ++ (more ++ rest)) answer =
          subst (λ xs. SpellsAnswer F xs answer) (ap (λ xs. xs ++ rest) is ∙ append_assoc first'.front more rest) first.begins.spells in
          (events_of answer, first.told rest answer first.begins.spells, first'.told (more ++ rest) answer spells)
    ]

-- the first of more first elements
take_within : {X : Type 0} (k k' : ℕ) (xs : List X) → k ≤ k' → take k (take k' xs) ≡ take k xs
take_within zero k' xs le = refl
take_within (suc k) zero xs le = absurd (omega arith)
take_within (suc k) (suc k') [] le = refl
take_within (suc k) (suc k') (x ∷ xs) le = ap (λ ys. x ∷ ys) (take_within k k' xs (omega arith))

-- fewer first elements begin more of them
fewer_first : (all es es' : List AnswerEvent) (k k' : ℕ) → k ≤ k' → es ≡ take k all → es' ≡ take k' all → (more : List AnswerEvent) × (es' ≡ es ++ more)
fewer_first all es es' k k' le is is' = grind (arith, take_within k k' all le, take-append-drop k es')

-- what is said of two readings of the same bytes: they are one, or one of them is of fewer lines and lets the bytes go on
abbrev pub SameReading : List AnswerEvent → List AnswerEvent → Behind → Behind → Type 0
SameReading es es' behind behind' =
    ((behind ≡ behind') × (es ≡ es'))
    ⊎ (((behind ≡ Further) × (more : List AnswerEvent) × (es' ≡ es ++ more)) ⊎ ((behind' ≡ Further) × (more : List AnswerEvent) × (es ≡ es' ++ more)))

-- a front that lets the bytes go on has no more lines than whole bytes
pub further_whole : (F : Form) (bytes : List ℕ) (es es' : List AnswerEvent) → TellsFront F bytes es → ReadsLines F bytes es' Ended → (more : List AnswerEvent) × (es' ≡ es ++ more)
further_whole F bytes es es' tells whole = grind (arith, take-append-drop (line_feeds tells.front - silent_lines F) es')

-- .. nor than bytes that cease to begin an answer
further_stop : (F : Form) (bytes : List ℕ) (n : ℕ) (es es' : List AnswerEvent) → TellsFront F bytes es → StopsAt F bytes n es' → (more : List AnswerEvent) × (es' ≡ es ++ more)
further_stop F bytes n es es' tells stops =
    let before : line_feeds tells.front < n = stops.last tells.front tells.back tells.parts tells.begins.begins in
    let both = both_first F bytes es es' (line_feeds tells.front - silent_lines F) (n - suc (silent_lines F)) (first_of_front F bytes es tells) (first_of_stop F bytes n es' stops) in
    fewer_first both.0 es es' (line_feeds tells.front - silent_lines F) (n - suc (silent_lines F)) (omega arith) both.1 both.2

-- bytes have one reading, but for how far it goes
pub same_lines : OneReading → (F : Form) (bytes : List ℕ) (es es' : List AnswerEvent) (behind behind' : Behind) → ReadsLines F bytes es behind → ReadsLines F bytes es' behind' →
    SameReading es es' behind behind'
same_lines once F bytes es es' Ended Ended read read' =
    let same = once F bytes bytes [] [] read.answer read'.answer read.spells read'.spells refl in
    inl (refl, read.told ∙ ap events_of same.1 ∙ sym read'.told)
same_lines once F bytes es es' Ended (Ceased n') read stops' = absurd (stops'.unspelled read.answer read.spells)
same_lines once F bytes es es' Ended Further read tells' = let longer = further_whole F bytes es' es tells' read in inr (inr (refl, longer.0, longer.1))
same_lines once F bytes es es' (Ceased n) Ended stops read' = absurd (stops.unspelled read'.answer read'.spells)
same_lines once F bytes es es' (Ceased n) (Ceased n') stops stops' =
    let same = same_stop F bytes n n' es es' stops stops' in
    inl (ap Ceased same.0, same.1)
same_lines once F bytes es es' (Ceased n) Further stops tells' = let longer = further_stop F bytes n es' es tells' stops in inr (inr (refl, longer.0, longer.1))
same_lines once F bytes es es' Further Ended tells read' = let longer = further_whole F bytes es es' tells read' in inr (inl (refl, longer.0, longer.1))
same_lines once F bytes es es' Further (Ceased n') tells stops' = let longer = further_stop F bytes n' es es' tells stops' in inr (inl (refl, longer.0, longer.1))
same_lines once F bytes es es' Further Further tells tells' =
    let k = line_feeds tells.front - silent_lines F in
    let k' = line_feeds tells'.front - silent_lines F in
    let both = both_first F bytes es es' k k' (first_of_front F bytes es tells) (first_of_front F bytes es' tells') in
    elim (cases_lt k k') [
      | inl less ↦ let longer = fewer_first both.0 es es' k k' (omega arith) both.1 both.2 in inr (inl (refl, longer.0, longer.1))
      | inr more ↦ let longer = fewer_first both.0 es' es k' k more both.2 both.1 in inr (inr (refl, longer.0, longer.1))
    ]
