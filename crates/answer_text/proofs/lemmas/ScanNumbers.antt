-- What is due of a number behind one more byte of it.
use Rattle.std.proofs.Common.{ℕ, ◌≡◌, ◌+◌, ◌-◌, ◌*◌, ◌<◌, ◌≤◌, ◌^◌, ℤ, pos, negsuc, Bool, true, false, List, [], ◌∷◌, ◌++◌, length, refl, sym, ap, ◌∙◌, arith, append_assoc, inr, ⊎_elim, subst, length-append}
use Rattle.std.specs.Prelude.{FitsSigned}
use Rattle.std.specs.Int.{w64}
use Rattle.std.specs.Fmt.{decimal, signed_decimal}
use Rattle.std.proofs.lemmas.List.{append-nil}
use Rattle.answer_text.specs.AnswerLine.{Line}
use Rattle.answer_text.specs.LineKinds as line
use Rattle.answer_text.specs.declared.label.EdgeLabel.TheVariants as edge
use Rattle.answer_text.specs.declared.scan.Kept.{Kept}
use Rattle.answer_text.specs.declared.scan.Field.{Field}
use Rattle.answer_text.specs.declared.scan.Field.TheVariants as field
use Rattle.answer_text.specs.declared.scan.Corner.{Corner}
use Rattle.answer_text.specs.declared.scan.Corner.TheVariants as corner
use Rattle.answer_text.specs.declared.scan.Scan.{Scan}
use Rattle.answer_text.specs.declared.scan.Scan.TheVariants as scan
use Rattle.answer_text.specs.Scanning.{least_of, limit_of, IsInField, signed, BehindNumber, BehindCoordinate, NumberLeft, ValueLeft, LeadsTo, IsDead, name_line, behind_x1, behind_y1}
use Rattle.answer_text.proofs.lemmas.Pieces.{number_one}
use Rattle.answer_text.proofs.lemmas.FrontNumbers.{IsFirstDigit, digits_some, digit_more, next_digit, first_digit, digit_spelled}

-- every field's numbers have at most 128 bits
pub limit-wide : (f : Field) → limit_of f ≤ 2 ^ 128
limit-wide f = grind arith

in_field-wide : (f : Field) (n : ℕ) → IsInField f n → n < 2 ^ 128
in_field-wide f n inside = let below = inside.limit in omega (arith, limit-wide f)

-- ---- one byte more

-- What stands behind digits and begins with a byte other than a blank begins with a digit.
record Digit (k : Kept) (f : Field) (digits : List ℕ) (b : ℕ) (rest : List ℕ) (l : Line) : Type 0 where
  number : ℕ
  more : List ℕ
  behind : List ℕ
  parts : rest ≡ more ++ behind
  spelled : decimal number ≡ digits ++ b ∷ more
  inside : IsInField f number
  follows : BehindNumber k f number behind l

digit_parts : (k : Kept) (f : Field) (digits : List ℕ) (b : ℕ) (rest : List ℕ) (l : Line) (n : ℕ) (more behind : List ℕ) → (b ≡ 32 → ⊥) → b ∷ rest ≡ more ++ behind
    → decimal n ≡ digits ++ more → IsInField f n → BehindNumber k f n behind l → Digit k f digits b rest l
digit_parts k f digits b rest l n [] behind other parts spelled inside follows = grind arith
digit_parts k f digits b rest l n (m ∷ more) behind other parts spelled inside follows = grind arith

digit_of_left : (k : Kept) (f : Field) (digits : List ℕ) (b : ℕ) (rest : List ℕ) (l : Line) → (b ≡ 32 → ⊥) → NumberLeft k f digits (b ∷ rest) l → Digit k f digits b rest l
digit_of_left k f digits b rest l other h = digit_parts k f digits b rest l h.number h.more h.behind other h.parts h.spelled h.inside h.follows

-- Digits that a byte makes to others lead to them.
leads_to_digits : (k : Kept) (f : Field) (digits longer : List ℕ) (b : ℕ) → (b ≡ 32 → ⊥) → longer ≡ digits ++ b ∷ []
    → ((rest : List ℕ) (l : Line) → NumberLeft k f digits (b ∷ rest) l → NumberLeft k f longer rest l) × ((rest : List ℕ) (l : Line) → NumberLeft k f longer rest l → NumberLeft k f digits (b ∷ rest) l)
leads_to_digits k f digits longer b other is =
    let again : (more : List ℕ) → longer ++ more ≡ digits ++ b ∷ more = λ more. ap (λ x. x ++ more) is ∙ append_assoc digits (b ∷ []) more in (
      (λ rest l h.
          let d = digit_of_left k f digits b rest l other h in
          record { number = d.number; more = d.more; behind = d.behind; parts = d.parts; spelled = d.spelled ∙ sym (again d.more); inside = d.inside; follows = d.follows }),
      (λ rest l h.
          record { number = h.number; more = b ∷ h.more; behind = h.behind; parts = ap (λ x. b ∷ x) h.parts; spelled = h.spelled ∙ again h.more; inside = h.inside; follows = h.follows }),
    )

-- the first digit
pub leads-first : (k : Kept) (f : Field) (digit b : ℕ) → digit < 10 → b ≡ 48 + digit → LeadsTo k (scan.Due f) b k (scan.Number f digit)
leads-first k f digit b few is =
    let longer : decimal digit ≡ [] ++ b ∷ [] = (let same : digit ≡ b - 48 = omega arith in ap decimal same ∙ digit_spelled b (omega arith) (omega arith)) in
    let both = leads_to_digits k f [] (decimal digit) b (λ blank. omega arith) longer in
    record { on = both.0; back = both.1 }

-- a number that begins with the byte
record First (f : Field) (b : ℕ) : Type 0 where
  number : ℕ
  is : IsFirstDigit number b
  inside : IsInField f number

first_of : (f : Field) (b : ℕ) (rest : List ℕ) (n : ℕ) (more behind : List ℕ) → b ∷ rest ≡ more ++ behind → decimal n ≡ [] ++ more → IsInField f n → First f b
first_of f b rest n [] behind parts spelled inside = let none = ap length spelled in let some = digits_some n (in_field-wide f n inside) in absurd (omega arith)
first_of f b rest n (m ∷ more) behind parts spelled inside = grind (arith, first_digit)

-- some digit is due
pub no_first : (k : Kept) (f : Field) (rest : List ℕ) (l : Line) → NumberLeft k f [] rest l → rest ≡ [] → ⊥
no_first k f rest l h none =
    grind (arith, digits_some h.number (in_field-wide f h.number h.inside), length-append h.more h.behind)

pub dead-first : (k : Kept) (f : Field) (b : ℕ) → (48 ≤ b → b < 58 → (b ≡ 48 → least_of f ≡ 1 → ⊥) → b - 48 < limit_of f → ⊥) → IsDead k (scan.Due f) b
dead-first k f b none rest l h = grind (arith, first_of f b rest h.number h.more h.behind h.parts h.spelled h.inside)

-- a further digit
pub leads-next : (k : Kept) (f : Field) (v digit b : ℕ) → IsInField f v → 0 < v → digit < 10 → b ≡ 48 + digit → 10 * v + digit < limit_of f
    → LeadsTo k (scan.Number f v) b k (scan.Number f (10 * v + digit))
leads-next k f v digit b inside some few is fits =
    let longer : decimal (10 * v + digit) ≡ decimal v ++ b ∷ [] = digit_more v digit some few (omega (arith, limit-wide f)) ∙ ap (λ x. decimal v ++ x ∷ []) (sym is) in
    let both = leads_to_digits k f (decimal v) (decimal (10 * v + digit)) b (λ blank. omega arith) longer in
    record { on = both.0; back = both.1 }

pub dead-next : (k : Kept) (f : Field) (v b : ℕ) → IsInField f v → (b ≡ 32 → ⊥) → (48 ≤ b → b < 58 → 0 < v → 10 * v + (b - 48) < limit_of f → ⊥) → IsDead k (scan.Number f v) b
dead-next k f v b inside other none rest l h =
    let d = digit_of_left k f (decimal v) b rest l other h in
    let is = next_digit v d.number b d.more (in_field-wide f v inside) (in_field-wide f d.number d.inside) d.spelled in
    let limit = d.inside.limit in
    let within = is.within in
    none is.low is.high is.some (omega arith)

-- ---- behind the last digit

-- what stands behind a number and begins with no digit
number_over : (k : Kept) (f : Field) (v : ℕ) (bytes : List ℕ) (l : Line) (n : ℕ) (more behind : List ℕ) → IsInField f v → ((m : ℕ) (rest : List ℕ) → bytes ≡ m ∷ rest → m < 48)
    → bytes ≡ more ++ behind → decimal n ≡ decimal v ++ more → IsInField f n → BehindNumber k f n behind l → BehindNumber k f v bytes l
number_over k f v bytes l n [] behind here low parts spelled inside follows = grind (arith, number_one, append-nil)
number_over k f v bytes l n (m ∷ more) behind here low parts spelled inside follows =
    grind (arith, next_digit v n m more (in_field-wide f v here) (in_field-wide f n inside) spelled, low m (more ++ behind) parts)

pub over_blank : (k : Kept) (f : Field) (v : ℕ) (rest : List ℕ) (l : Line) → IsInField f v → NumberLeft k f (decimal v) (32 ∷ rest) l → BehindNumber k f v (32 ∷ rest) l
over_blank k f v rest l here h = grind (arith, number_over)

pub over_end : (k : Kept) (f : Field) (v : ℕ) (l : Line) → IsInField f v → NumberLeft k f (decimal v) [] l → BehindNumber k f v [] l
over_end k f v l here h = number_over k f v [] l h.number h.more h.behind here (λ m more e. absurd cc) h.parts h.spelled h.inside h.follows

pub left_over : (k : Kept) (f : Field) (v : ℕ) (bytes : List ℕ) (l : Line) → IsInField f v → BehindNumber k f v bytes l → NumberLeft k f (decimal v) bytes l
left_over k f v bytes l here h = record { number = v; more = []; behind = bytes; parts = refl; spelled = sym (append-nil (decimal v)); inside = here; follows = h }

-- a blank where none may stand
pub dead-blank : (k : Kept) (f : Field) (v : ℕ) → IsInField f v → ((rest : List ℕ) (l : Line) → BehindNumber k f v (32 ∷ rest) l → ⊥) → IsDead k (scan.Number f v) 32
dead-blank k f v here none rest l h = none rest l (over_blank k f v rest l here h)

-- the blank behind a weight
pub leads-weight : (k k' : Kept) (v : ℕ) → IsInField field.Weight v → k'.weight ≡ v → length k'.members ≡ length k.members
    → LeadsTo k (scan.Number field.Weight v) 32 k' (scan.Set 0)
leads-weight k k' v here weight size = record {
  on = λ rest l h.
      let b = over_blank k field.Weight v rest l here h in
      let text = b.text in
      let least = here.least in
      let limit = here.limit in
      record {
        set = b.set;
        size = b.size ∙ sym size;
        same = λ u below. absurd (omega arith);
        text = cc;
        line = b.line ∙ (λ i. line.Cut (record { weight = sym weight i; members = b.set }));
        weight = (omega arith, omega arith);
      };
  back = λ rest l h.
      left_over k field.Weight v (32 ∷ rest) l here (record {
        set = h.set;
        size = h.size ∙ size;
        text = ap (λ x. 32 ∷ x) h.text;
        line = h.line ∙ (λ i. line.Cut (record { weight = weight i; members = h.set }));
      });
}

-- ---- coordinates

-- a minus, or a first digit
pub leads-minus : (k : Kept) (c : Corner) → LeadsTo k (scan.Coordinate c) 45 k (scan.Due (field.Coordinate c true))
leads-minus k c = record {
  on = λ rest l h. ⊎_elim
      (λ (plain : NumberLeft k (field.Coordinate c false) [] (45 ∷ rest) l).
      let f = field.Coordinate c false in
      let first = first_of f 45 rest plain.number plain.more plain.behind plain.parts plain.spelled plain.inside in
      let low = first.is.low in absurd (omega arith))
      (λ (minus : (digits : List ℕ) × (45 ∷ rest ≡ 45 ∷ digits) × NumberLeft k (field.Coordinate c true) [] digits l).
      let same : minus.0 ≡ rest = (let e = minus.1 in cc) in
      subst (λ x. NumberLeft k (field.Coordinate c true) [] x l) same minus.2)
      h;
  back = λ rest l h. inr (rest, refl, h);
}

-- without a minus it is a number
pub plain_left : (k : Kept) (c : Corner) (b : ℕ) (rest : List ℕ) (l : Line) → (b ≡ 45 → ⊥) → ValueLeft k (scan.Coordinate c) (b ∷ rest) l → NumberLeft k (field.Coordinate c false) [] (b ∷ rest) l
plain_left k c b rest l other h = grind arith

pub leads-plain : (k : Kept) (c : Corner) (b : ℕ) (next : Scan) → (b ≡ 45 → ⊥) → LeadsTo k (scan.Due (field.Coordinate c false)) b k next → LeadsTo k (scan.Coordinate c) b k next
leads-plain k c b next other leads = grind (arith, plain_left)

pub dead-plain : (k : Kept) (c : Corner) (b : ℕ) → (b ≡ 45 → ⊥) → IsDead k (scan.Due (field.Coordinate c false)) b → IsDead k (scan.Coordinate c) b
dead-plain k c b other dead rest l h = dead rest l (plain_left k c b rest l other h)

-- a coordinate and what stands behind it
pub record Spelled (k : Kept) (c : Corner) (rest : List ℕ) (l : Line) : Type 0 where
  pub coordinate : ℤ
  pub behind : List ℕ
  pub text : rest ≡ signed_decimal coordinate ++ behind
  pub fits : FitsSigned w64 coordinate
  pub follows : BehindCoordinate k c coordinate behind l

plain_spelled : (k : Kept) (c : Corner) (rest : List ℕ) (l : Line) → NumberLeft k (field.Coordinate c false) [] rest l → Spelled k c rest l
plain_spelled k c rest l h = grind arith

minus_spelled : (k : Kept) (c : Corner) (rest digits : List ℕ) (l : Line) (n : ℕ) (more behind : List ℕ) → rest ≡ 45 ∷ digits → digits ≡ more ++ behind → decimal n ≡ [] ++ more
    → IsInField (field.Coordinate c true) n → BehindCoordinate k c (signed true n) behind l → Spelled k c rest l
minus_spelled k c rest digits l n more behind is parts spelled inside follows = grind arith

pub spelled_of : (k : Kept) (c : Corner) (rest : List ℕ) (l : Line) → ValueLeft k (scan.Coordinate c) rest l → Spelled k c rest l
spelled_of k c rest l h = grind (arith, plain_spelled, minus_spelled)

-- a coordinate that is spelled is due
pub coordinate_left : (k : Kept) (c : Corner) (z : ℤ) (rest behind : List ℕ) (l : Line) → rest ≡ signed_decimal z ++ behind → FitsSigned w64 z → BehindCoordinate k c z behind l
    → ValueLeft k (scan.Coordinate c) rest l
coordinate_left k c (pos n) rest behind l text fits follows = grind arith
coordinate_left k c (negsuc n) rest behind l text fits follows = search arith

-- the blank behind a coordinate
pub leads-x1 : (k k' : Kept) (minus : Bool) (v : ℕ) → IsInField (field.Coordinate corner.X1 minus) v → k'.stage ≡ k.stage → k'.version ≡ k.version → k'.name.x1 ≡ signed minus v
    → LeadsTo k (scan.Number (field.Coordinate corner.X1 minus) v) 32 k' (scan.Coordinate corner.Y1)
leads-x1 k k' minus v here stage version x1 = record {
  on = λ rest l h.
      let b = over_blank k (field.Coordinate corner.X1 minus) v rest l here h in
      let text = b.text in
      let rest_is : rest ≡ behind_x1 b.name = cc in
      coordinate_left k' corner.Y1 b.name.y1 rest (32 ∷ behind_y1 b.name) l rest_is b.fits.y1
      (record { name = b.name; fits = b.fits; same = (b.same ∙ sym x1, refl); text = refl; line = b.line ∙ (λ i. name_line (sym version i) (sym stage i) (edge.Ends b.name)) });
  back = λ rest l h.
      let s = spelled_of k' corner.Y1 rest l h in
      let f = s.follows in
      let rest_is : rest ≡ behind_x1 f.name = s.text ∙ (λ i. signed_decimal (sym f.same.1 i) ++ f.text i) in
      left_over k (field.Coordinate corner.X1 minus) v (32 ∷ rest) l here
      (record { name = f.name; fits = f.fits; same = f.same.0 ∙ x1; text = ap (λ x. 32 ∷ x) rest_is; line = f.line ∙ (λ i. name_line (version i) (stage i) (edge.Ends f.name)) });
}

pub leads-y1 : (k k' : Kept) (minus : Bool) (v : ℕ) → IsInField (field.Coordinate corner.Y1 minus) v → k'.stage ≡ k.stage → k'.version ≡ k.version → k'.name.x1 ≡ k.name.x1 → k'.name.y1 ≡ signed minus v
    → LeadsTo k (scan.Number (field.Coordinate corner.Y1 minus) v) 32 k' (scan.Coordinate corner.X2)
leads-y1 k k' minus v here stage version x1 y1 = record {
  on = λ rest l h.
      let b = over_blank k (field.Coordinate corner.Y1 minus) v rest l here h in
      let text = b.text in
      let rest_is : rest ≡ behind_y1 b.name = cc in
      coordinate_left k' corner.X2 b.name.x2 rest (32 ∷ signed_decimal b.name.y2) l rest_is b.fits.x2
      (record { name = b.name; fits = b.fits; same = (b.same.0 ∙ sym x1, b.same.1 ∙ sym y1, refl); text = refl; line = b.line ∙ (λ i. name_line (sym version i) (sym stage i) (edge.Ends b.name)) });
  back = λ rest l h.
      let s = spelled_of k' corner.X2 rest l h in
      let f = s.follows in
      let rest_is : rest ≡ behind_y1 f.name = s.text ∙ (λ i. signed_decimal (sym f.same.2 i) ++ f.text i) in
      left_over k (field.Coordinate corner.Y1 minus) v (32 ∷ rest) l here
      (record { name = f.name; fits = f.fits; same = (f.same.0 ∙ x1, f.same.1 ∙ y1); text = ap (λ x. 32 ∷ x) rest_is; line = f.line ∙ (λ i. name_line (version i) (stage i) (edge.Ends f.name)) });
}

pub leads-x2 : (k k' : Kept) (minus : Bool) (v : ℕ) → IsInField (field.Coordinate corner.X2 minus) v → k'.stage ≡ k.stage → k'.version ≡ k.version → k'.name.x1 ≡ k.name.x1 → k'.name.y1 ≡ k.name.y1
    → k'.name.x2 ≡ signed minus v → LeadsTo k (scan.Number (field.Coordinate corner.X2 minus) v) 32 k' (scan.Coordinate corner.Y2)
leads-x2 k k' minus v here stage version x1 y1 x2 = record {
  on = λ rest l h.
      let b = over_blank k (field.Coordinate corner.X2 minus) v rest l here h in
      let text = b.text in
      let rest_is : rest ≡ signed_decimal b.name.y2 ++ [] = (let plain : rest ≡ signed_decimal b.name.y2 = cc in plain ∙ sym (append-nil (signed_decimal b.name.y2))) in
      coordinate_left k' corner.Y2 b.name.y2 rest [] l rest_is b.fits.y2
      (record { name = b.name; fits = b.fits; same = (b.same.0 ∙ sym x1, b.same.1 ∙ sym y1, b.same.2 ∙ sym x2, refl); text = refl; line = b.line ∙ (λ i. name_line (sym version i) (sym stage i) (edge.Ends b.name)) });
  back = λ rest l h.
      let s = spelled_of k' corner.Y2 rest l h in
      let f = s.follows in
      let rest_is : rest ≡ signed_decimal f.name.y2 = s.text ∙ (λ i. signed_decimal (sym f.same.3 i) ++ f.text i) ∙ append-nil (signed_decimal f.name.y2) in
      left_over k (field.Coordinate corner.X2 minus) v (32 ∷ rest) l here
      (record { name = f.name; fits = f.fits; same = (f.same.0 ∙ x1, f.same.1 ∙ y1, f.same.2 ∙ x2); text = ap (λ x. 32 ∷ x) rest_is; line = f.line ∙ (λ i. name_line (version i) (stage i) (edge.Ends f.name)) });
}

pub leads-x : (k k' : Kept) (minus : Bool) (v : ℕ) → IsInField (field.Coordinate corner.X minus) v → k'.name.x1 ≡ signed minus v
    → LeadsTo k (scan.Number (field.Coordinate corner.X minus) v) 32 k' (scan.Coordinate corner.Y)
leads-x k k' minus v here x1 = record {
  on = λ rest l h.
      let b = over_blank k (field.Coordinate corner.X minus) v rest l here h in
      let text = b.text in
      let rest_is : rest ≡ signed_decimal b.name.y1 ++ [] = (let plain : rest ≡ signed_decimal b.name.y1 = cc in plain ∙ sym (append-nil (signed_decimal b.name.y1))) in
      coordinate_left k' corner.Y b.name.y1 rest [] l rest_is b.fits.y1
      (record { name = b.name; fits = b.fits; same = (b.same ∙ sym x1, refl); text = refl; line = b.line });
  back = λ rest l h.
      let s = spelled_of k' corner.Y rest l h in
      let f = s.follows in
      let rest_is : rest ≡ signed_decimal f.name.y1 = s.text ∙ (λ i. signed_decimal (sym f.same.1 i) ++ f.text i) ∙ append-nil (signed_decimal f.name.y1) in
      left_over k (field.Coordinate corner.X minus) v (32 ∷ rest) l here
      (record { name = f.name; fits = f.fits; same = f.same.0 ∙ x1; text = ap (λ x. 32 ∷ x) rest_is; line = f.line });
}
