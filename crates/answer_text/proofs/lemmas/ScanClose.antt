-- What the end of a line makes of a number or a set that was read.
use Rattle.std.proofs.Common.{ℕ, suc, ◌≡◌, ◌+◌, ◌-◌, ◌/◌, ◌<◌, ◌≤◌, ◌^◌, Bool, List, [], ◌∷◌, length, refl, sym, ap, subst, ◌∙◌, arith, Result, Option, Some, None, true, false, drop, length-append, ⊎_elim}
use Rattle.std.specs.Prelude.{codes}
use Rattle.std.specs.Result.{OkIff, result_ok}
use Rattle.std.proofs.lemmas.List.{length-drop}
use Rattle.answer_text.specs.declared.head.AnswerHead.{AnswerHead}
use Rattle.answer_text.specs.declared.event.Event.{Event}
use Rattle.answer_text.specs.declared.event.Event.TheVariants as event
use Rattle.answer_text.specs.AnswerLine.{Line}
use Rattle.answer_text.specs.LineKinds as line
use Rattle.answer_text.specs.declared.line.Stage.{Stage}
use Rattle.answer_text.specs.declared.line.Stage.TheVariants as stage
use Rattle.answer_text.specs.declared.scan.Kept.{Kept}
use Rattle.answer_text.specs.declared.scan.Field.{Field}
use Rattle.answer_text.specs.declared.scan.Field.TheVariants as field
use Rattle.answer_text.specs.declared.scan.Closed.{Closed}
use Rattle.answer_text.specs.declared.scan.Word.TheVariants as word
use Rattle.answer_text.specs.declared.scan.Scan.{Scan}
use Rattle.answer_text.specs.declared.scan.Scan.TheVariants as scan
use Rattle.answer_text.specs.declared.version.Version.TheVariants as version
use Rattle.answer_text.specs.Spelling.{FitsName}
use Rattle.answer_text.specs.Lines.{step}
use Rattle.answer_text.specs.LineFits.{version_with}
use Rattle.answer_text.specs.Events.{head_with, line_told, event_at}
use Rattle.answer_text.specs.Given.{given}
use Rattle.answer_text.specs.Scanning.{word_bytes, WordLeft, WordsLeft, IsInField, BehindNumber, NumberLeft, Left, IsSound, IsNoLineLeft, Closes}
use Rattle.answer_text.proofs.lemmas.ScanNumbers.{no_first, over_end, left_over}
use Rattle.answer_text.proofs.lemmas.Steps.{step-leaf}
use Rattle.answer_text.proofs.lemmas.ScanMore.{set_whole, set_left}

-- a number that was made smaller is the same
pub same_small : {E : Type 0} (fit : Result ℕ E) (bound m x : ℕ) (r : Option ℕ) → OkIff fit (m < bound) m → r ≡ result_ok fit → r ≡ Some x → x ≡ m
same_small fit bound m x r fits is was = grind arith

-- ---- numbers

pub closes_number : (k k' : Kept) (f : Field) (v : ℕ) (h h' : AnswerHead) (told : Option Event) (l : Line) → IsInField f v → BehindNumber k f v [] l → ((s' : Stage) → step k.stage l ≡ Some s' → k'.stage ≡ s')
    → k'.version ≡ version_with k.version l → h' ≡ head_with h l → ((n : ℕ) → event_at n (line_told h' l) ≡ given n told k'.members) → k'.members ≡ k.members → FitsName k'.name → Closes k (scan.Number f v) h k' h' told
closes_number k k' f v h h' told l inside behind stage version head event members name = search left_over

pub closes-length : (k : Kept) (h : AnswerHead) (f : Field) (v x : ℕ) → f ≡ field.Length → x ≡ v → IsInField f v → FitsName k.name
    → Closes k (scan.Number f v) h (record k { stage = stage.Bound }) (record h { length = x }) None
closes-length k h f v x is same inside name =
    let C : Field → Type 0 = λ g. Closes k (scan.Number g v) h (record k { stage = stage.Bound }) (record h { length = x }) None in
    let there : IsInField field.Length v = subst (λ g. IsInField g v) is inside in
    subst C (sym is) (closes_number k (record k { stage = stage.Bound }) field.Length v h (record h { length = x }) None (line.Length v) there (refl, refl) (λ s' e. grind arith) refl (λ i. record h { length = same i }) (λ n. refl) refl name)

pub closes-bound : (k : Kept) (h : AnswerHead) (f : Field) (v x : ℕ) → f ≡ field.Bound → x ≡ v → IsInField f v → FitsName k.name
    → Closes k (scan.Number f v) h (record k { stage = stage.Status }) (record h { bound = x }) None
closes-bound k h f v x is same inside name =
    let C : Field → Type 0 = λ g. Closes k (scan.Number g v) h (record k { stage = stage.Status }) (record h { bound = x }) None in
    let there : IsInField field.Bound v = subst (λ g. IsInField g v) is inside in
    subst C (sym is) (closes_number k (record k { stage = stage.Status }) field.Bound v h (record h { bound = x }) None (line.Bound v) there (refl, refl) (λ s' e. grind arith) refl (λ i. record h { bound = same i }) (λ n. refl) refl name)

pub closes-openings : (k : Kept) (h : AnswerHead) (f : Field) (v x : ℕ) → f ≡ field.Openings → x ≡ v → IsInField f v → FitsName k.name
    → Closes k (scan.Number f v) h (record k { stage = stage.Concat }) (record h { openings = x }) None
closes-openings k h f v x is same inside name =
    let C : Field → Type 0 = λ g. Closes k (scan.Number g v) h (record k { stage = stage.Concat }) (record h { openings = x }) None in
    let there : IsInField field.Openings v = subst (λ g. IsInField g v) is inside in
    subst C (sym is) (closes_number k (record k { stage = stage.Concat }) field.Openings v h (record h { openings = x }) None (line.Openings v) there (refl, refl) (λ s' e. grind arith) refl (λ i. record h { openings = same i }) (λ n. refl) refl name)

pub closes-last_openings : (k : Kept) (h : AnswerHead) (f : Field) (v x : ℕ) → f ≡ field.LastOpenings → x ≡ v → IsInField f v → FitsName k.name
    → Closes k (scan.Number f v) h (record k { stage = stage.Count }) (record h { openings = x }) (Some (event.Head (record h { openings = x })))
closes-last_openings k h f v x is same inside name =
    let h' : AnswerHead = record h { openings = x } in
    let C : Field → Type 0 = λ g. Closes k (scan.Number g v) h (record k { stage = stage.Count }) h' (Some (event.Head h')) in
    let there : IsInField field.LastOpenings v = subst (λ g. IsInField g v) is inside in
    subst C (sym is) (closes_number k (record k { stage = stage.Count }) field.LastOpenings v h h' (Some (event.Head h')) (line.LastOpenings v) there (refl, refl)
    (λ s' e. grind arith) refl (λ i. record h { openings = same i }) (λ n. refl) refl name)

pub closes-total : (k : Kept) (h : AnswerHead) (f : Field) (v : ℕ) (least : Bool) → f ≡ field.Total least → IsInField f v → FitsName k.name
    → Closes k (scan.Number f v) h (record k { stage = stage.Count }) (record h { concat = record { least = least; total = v } }) (Some (event.Head (record h { concat = record { least = least; total = v } })))
closes-total k h f v least is inside name =
    let h' : AnswerHead = record h { concat = record { least = least; total = v } } in
    let C : Field → Type 0 = λ g. Closes k (scan.Number g v) h (record k { stage = stage.Count }) h' (Some (event.Head h')) in
    let there : IsInField (field.Total least) v = subst (λ g. IsInField g v) is inside in
    subst C (sym is) (closes_number k (record k { stage = stage.Count }) (field.Total least) v h h' (Some (event.Head h')) (line.Concat (record { least = least; total = v })) there (refl, refl)
    (λ s' e. grind arith) refl refl (λ n. refl) refl name)

pub closes-count : (k : Kept) (h : AnswerHead) (f : Field) (most v x : ℕ) → f ≡ field.Count most → x ≡ v → IsInField f v → FitsName k.name
    → Closes k (scan.Number f v) h (record k { stage = stage.Edges x }) h (Some (event.EdgeCount x))
closes-count k h f most v x is same inside name =
    let C : Field → ℕ → Type 0 = λ g y. Closes k (scan.Number g v) h (record k { stage = stage.Edges y }) h (Some (event.EdgeCount y)) in
    let there : IsInField (field.Count most) v = subst (λ g. IsInField g v) is inside in
    subst (λ g. C g x) (sym is) (subst (λ y. C (field.Count most) y) (sym same) (closes_number k (record k { stage = stage.Edges v }) (field.Count most) v h h (Some (event.EdgeCount v)) (line.Count v) there (refl, refl)
    (λ s' e. grind arith) refl refl (λ n. refl) refl name))

pub closes-leaf : (k : Kept) (h : AnswerHead) (cuts c nodes left : ℕ) → k.stage ≡ stage.Body c nodes → left ≡ nodes - 1 → cuts < 2 ^ 32 → FitsName k.name
    → Closes k (scan.Number field.Leaf cuts) h (record k { stage = stage.Body cuts left }) h (Some (event.Leaf cuts))
closes-leaf k h cuts c nodes left is less few name =
    closes_number k (record k { stage = stage.Body cuts left }) field.Leaf cuts h h (Some (event.Leaf cuts)) (line.Leaf cuts) (record { least = omega arith; limit = few }) (refl, refl)
    (λ s' e.
    let due = step-leaf k.stage s' cuts e in
    let both : stage.Body c nodes ≡ stage.Body 0 (suc due.0) = sym is ∙ due.1 in
    let count : nodes ≡ suc due.0 = cc in
    let here : left ≡ due.0 = omega arith in
    ap (stage.Body cuts) here ∙ due.2)
    refl refl (λ n. refl) refl name

-- a number that ends no line
pub no_line-weight : (k : Kept) (f : Field) (v : ℕ) → f ≡ field.Weight → IsInField f v → IsNoLineLeft k (scan.Number f v)
no_line-weight k f v is inside l s' left due =
    let there : IsInField field.Weight v = subst (λ g. IsInField g v) is inside in
    let behind = over_end k field.Weight v l there (subst (λ g. Left k (scan.Number g v) [] l) is left) in
    let text = behind.text in cc

-- ---- sets

pub closes-set : (k : Kept) (h : AnswerHead) (place cuts nodes left : ℕ) → k.stage ≡ stage.Body cuts nodes → left ≡ cuts - 1 → (length k.members + 3) / 4 ≤ place → 0 < k.weight → k.weight < 2 ^ 64 → FitsName k.name
    → Closes k (scan.Set place) h (record k { stage = stage.Body left nodes }) h (Some (event.Cut k.weight))
closes-set k h place cuts nodes left is less whole some fits name =
    grind (arith, set_left k place some fits whole)

pub no_line-set : (k : Kept) (place : ℕ) → place < (length k.members + 3) / 4 → IsNoLineLeft k (scan.Set place)
no_line-set k place short l s' left due = let whole = set_whole k place l left in omega arith

-- ---- other states

pub no_line-other : (k : Kept) (s : Scan) → ((f : Field) (v : ℕ) → s ≡ scan.Number f v → ⊥) → ((place : ℕ) → s ≡ scan.Set place → ⊥) → ((c : Closed) → s ≡ scan.LineEnd c → ⊥) → IsSound k s → IsNoLineLeft k s
no_line-other k (scan.Word w place) number set closed sound l s' left due =
    grind (arith, length-drop place (word_bytes w), length-append (drop place (word_bytes w)) left.0)
no_line-other k scan.Version number set closed sound l s' left due = ⊎_elim (λ (one : ([] ≡ codes "1") × (l ≡ line.Title version.One)). let e = one.0 in absurd cc) (λ (two : ([] ≡ codes "2") × (l ≡ line.Title version.Two)). let e = two.0 in absurd cc) left
no_line-other k scan.Status number set closed sound l s' left due = ⊎_elim (λ (one : WordLeft k word.Optimal 0 [] l). let e = one.1 in absurd cc) (λ (other : WordLeft k word.Stopped 0 [] l). let e = other.1 in absurd cc) left
no_line-other k scan.Kind number set closed sound l s' left due = ⊎_elim (λ (one : WordLeft k word.Least 0 [] l). let e = one.1 in absurd cc) (λ (other : WordLeft k word.Spent 0 [] l). let e = other.1 in absurd cc) left
no_line-other k (scan.Node v F) number set closed sound l s' left due = ⊎_elim (λ (one : WordsLeft k (word.Split v F) 0 [] l). let e = one.1 in absurd cc) (λ (other : WordsLeft k word.Leaf 0 [] l). let e = other.1 in absurd cc) left
no_line-other k (scan.On F) number set closed sound l s' left due = ⊎_elim (λ (one : WordLeft k (word.Edge F) 0 [] l). let e = one.1 in absurd cc) (λ (other : WordLeft k (word.Vertex F) 0 [] l). let e = other.1 in absurd cc) left
no_line-other k (scan.Due f) number set closed sound l s' left due = no_first k f [] l left refl
no_line-other k (scan.Coordinate c) number set closed sound l s' left due = ⊎_elim
    (λ (plain : NumberLeft k (field.Coordinate c false) [] [] l). no_first k (field.Coordinate c false) [] l plain refl)
    (λ (minus : (digits : List ℕ) × ([] ≡ 45 ∷ digits) × NumberLeft k (field.Coordinate c true) [] digits l). let e = minus.1 in absurd cc)
    left
no_line-other k (scan.Number f v) number set closed sound l s' left due = number f v refl
no_line-other k (scan.Set place) number set closed sound l s' left due = set place refl
no_line-other k (scan.LineEnd c) number set closed sound l s' left due = closed c refl
no_line-other k scan.Ended number set closed sound l s' left due = left
no_line-other k scan.Refused number set closed sound l s' left due = left
