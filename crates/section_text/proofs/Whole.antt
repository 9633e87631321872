-- What bytes come to, and what they spell.
use Rattle.std.specs.Prelude.{ℕ, ◌≡◌, ◌<◌, ◌≤◌, ◌^◌, ◌⊎◌, List, [], ◌∷◌, ◌++◌, length, map, codes, All, Result, Ok, Err, IfOk, IfErr}
use Rattle.std.specs.List.{AllByRecursion}
use Rattle.std.proofs.Common.{arith, refl, sym, ap, ◌∙◌, subst, inl, inr}
use Rattle.std.proofs.lemmas.List.{append-nil, append_assoc}
use Rattle.std.proofs.lemmas.List.Elements.{All-head, All-tail}
use Rattle.text_in.specs.Words.{IsWord}
use Rattle.text_in.specs.Numbers.{decimal_is_word, signed_decimal_is_word}
use Rattle.points_in.specs.declared.point.Point.{Point}
use Rattle.points_in.specs.Text.{IsPoint}
use Rattle.text_in.specs.Lines.{lines_of, text_of, empty_line, IsLineOfWords}
use Rattle.text_in.specs.LineLaws.{lines_of_one, lines_of-text_of, lines_some}
use Rattle.section_text.specs.Words.{end_words, count_words, point_words}
use Rattle.section_text.specs.WordLaws.{plain}
use Rattle.section_text.specs.Format.{Format, IsLawful}
use Rattle.section_text.specs.Text.{section_lines, AreSections, Spells}
use Rattle.section_text.specs.Faults.{nothing}
use Rattle.section_text.specs.Judged.{Judges, IsOutcome, IsFirstFault, Answers}
use Rattle.section_text.proofs.Outcome.{judges_one}
use Rattle.section_text.proofs.Sound.{judged_lines}
use Rattle.section_text.proofs.Complete.{sections_come, behind_end}

-- lines of words
end_line : IsLineOfWords end_words
end_line = (omega arith, (plain (codes "end") (omega arith) (omega arith, (omega arith, (omega arith, tt))), tt))

points_word : IsWord (codes "points")
points_word = plain (codes "points") (omega arith) (omega arith, (omega arith, (omega arith, (omega arith, (omega arith, (omega arith, tt))))))

count_line : (kind : List ℕ) (n : ℕ) → IsWord kind → n < 2 ^ 64 → IsLineOfWords (count_words kind n)
count_line kind n is fits = (omega arith, (is, (decimal_is_word n fits, tt)))

point_lines : (ps : List Point) (more : List (List (List ℕ))) → All IsPoint ps → AllByRecursion IsLineOfWords more → AllByRecursion IsLineOfWords (map point_words ps ++ more)
point_lines [] more all are = are
point_lines (p ∷ ps) more all are =
    let is = All-head IsPoint p ps all in
    ((omega arith, (signed_decimal_is_word p.x is.x, (signed_decimal_is_word p.y is.y, tt))), point_lines ps more (All-tail IsPoint p ps all) are)

module _ {X F V : Type 0} (fm : Format X F V) (lawful : IsLawful fm) where
  -- the lines of items are made of words
  item_lines : (ps : List Point) (rest told all : List X) → length ps ≤ 50 → all ≡ told ++ rest → fm.AreItems ps all
      → AllByRecursion IsLineOfWords (map fm.item_words rest ++ end_words ∷ [])
  item_lines ps [] told all few is right = (end_line, tt)
  item_lines ps (x ∷ rest) told all few is right =
      grind (
        arith,
        lawful.item_line x (lawful.spelled ps told x few (lawful.next ps told rest x (subst (fm.AreItems ps) is right))),
        lawful.spelled ps told x few (lawful.next ps told rest x (subst (fm.AreItems ps) is right)),
        lawful.next ps told rest x (subst (fm.AreItems ps) is right),
        fm.AreItems ps,
        item_lines ps rest (told ++ x ∷ []) all few (is ∙ sym (append_assoc told (x ∷ []) rest)) right,
        append_assoc told (x ∷ []) rest,
      )

  -- so are those of points and items
  section_words : (ps : List Point) (xs : List X) → AreSections fm ps xs → AllByRecursion IsLineOfWords (section_lines fm ps xs)
  section_words ps xs are =
      let few = are.points.few in
      let few_items = are.few in
      let limit = lawful.few in (
        lawful.title,
        (
          count_line (codes "points") (length ps) points_word (omega arith),
          point_lines ps (count_words fm.kind (length xs) ∷ map fm.item_words xs ++ end_words ∷ []) are.points.points
              (count_line fm.kind (length xs) lawful.kind (omega arith), item_lines ps xs [] xs few refl are.items),
        ),
      )

  abbrev text : List Point → List X → List ℕ
  text ps xs = text_of (section_lines fm ps xs)

  -- the lines of a text, with bytes behind it
  lines_behind : (ps : List Point) (xs : List X) (more : List ℕ) → AreSections fm ps xs → lines_of (text ps xs ++ more) ≡ section_lines fm ps xs ++ lines_of more
  lines_behind ps xs more are = lines_of-text_of (section_lines fm ps xs) more (section_words ps xs are)

  lines_alone : (ps : List Point) (xs : List X) → AreSections fm ps xs → lines_of (text ps xs) ≡ section_lines fm ps xs ++ empty_line ∷ []
  lines_alone ps xs are = ap lines_of (sym (append-nil (text ps xs))) ∙ lines_behind ps xs [] are

  -- bytes that come to a value spell it
  pub spells : (bytes : List ℕ) (v : V) → IsOutcome fm bytes (Ok v) → Spells fm bytes v
  spells bytes v judged =
      let told = judged_lines fm lawful nothing 1 (lines_of bytes) v tt judged in
      record {
        ps = told.ps;
        xs = told.xs;
        are = told.are;
        value = told.value;
        text = lines_of_one bytes (text told.ps told.xs) (told.lines ∙ sym (lines_alone told.ps told.xs told.are));
      }

  -- what a text with bytes behind it comes to
  abbrev IsKind : List ℕ → V → Result V F → Type 0
  IsKind more v o = ((lines_of more ≡ empty_line ∷ []) × (o ≡ Ok v)) ⊎ ((f : F) × (o ≡ Err f))

  text_comes : (ps : List Point) (xs : List X) (more : List ℕ) → AreSections fm ps xs
      → (o : Result V F) × IsOutcome fm (text ps xs ++ more) o × IsKind more (fm.value_of ps xs) o
  text_comes ps xs more are =
      let come = sections_come fm lawful (IsKind more (fm.value_of ps xs)) ps xs (lines_of more) (lines_some more) are
      (behind_end fm lawful ps xs (lines_of more) are.whole (lines_some more)) 1 in
      (come.0, subst (λ ls. Judges fm nothing 1 ls come.0) (sym (lines_behind ps xs more are)) come.1, come.2)

  -- bytes that spell a value come to it
  pub comes_to : (bytes : List ℕ) (v : V) → Spells fm bytes v → IsOutcome fm bytes (Ok v)
  comes_to bytes v sv =
      let come = sections_come fm lawful (λ o. o ≡ Ok v) sv.ps sv.xs (empty_line ∷ []) (omega arith) sv.are
      (λ n. (Ok v, inl (refl, inl (sv.are.whole, ap Ok sv.value)), refl)) 1 in
      let lines : section_lines fm sv.ps sv.xs ++ empty_line ∷ [] ≡ lines_of bytes = sym (ap lines_of sv.text ∙ lines_alone sv.ps sv.xs sv.are) in
      subst (λ ls. Judges fm nothing 1 ls (Ok v)) lines
      (subst (λ o. Judges fm nothing 1 (section_lines fm sv.ps sv.xs ++ empty_line ∷ []) o) come.2 come.1)

  by_kind : (more : List ℕ) (v w : V) (o : Result V F) → o ≡ Ok w → IsKind more v o → (v ≡ w) × (more ≡ [])
  by_kind more v w o is (inl (none, e)) = (cc, lines_of_one more [] none)
  by_kind more v w o is (inr (f, e)) = cc

  -- no spelling is a proper prefix of another
  pub one_spelling : (bytes more : List ℕ) (v w : V) → Spells fm bytes v → Spells fm (bytes ++ more) w → (v ≡ w) × (more ≡ [])
  one_spelling bytes more v w sv sw =
      let come = text_comes sv.ps sv.xs more sv.are in
      let same_text : text sv.ps sv.xs ++ more ≡ bytes ++ more = ap (λ b. b ++ more) (sym sv.text) in
      let whole : IsOutcome fm (bytes ++ more) come.0 = subst (λ b. IsOutcome fm b come.0) same_text come.1 in
      let same : come.0 ≡ Ok w = judges_one fm lawful nothing 1 (lines_of (bytes ++ more)) come.0 (Ok w) whole (comes_to (bytes ++ more) w sw) in
      by_kind more v w come.0 same (subst (λ u. IsKind more u come.0) (sym sv.value) come.2)

  -- what was read is spelled
  pub value_spelled : (bytes : List ℕ) (r : Result V F) → IfOk r (λ v. IsOutcome fm bytes (Ok v)) → IfOk r (Spells fm bytes)
  value_spelled bytes (Ok v) is = spells bytes v is
  value_spelled bytes (Err f) is = tt

  -- what was answered is the outcome, but for want of memory
  pub answers : (bytes : List ℕ) (r : Result V F) → IfOk r (λ v. IsOutcome fm bytes (Ok v)) → IfErr r (IsFirstFault fm bytes)
      → (o : Result V F) → IsOutcome fm bytes o → Answers fm r o
  answers bytes (Ok v) ok err o is = judges_one fm lawful nothing 1 (lines_of bytes) (Ok v) o ok is
  answers bytes (Err f) ok err o is = λ other. judges_one fm lawful nothing 1 (lines_of bytes) (Err f) o (err other) is
