-- What is due of a set's digits behind one more of them.
use Rattle.std.proofs.Common.{ℕ, suc, zero, ◌≡◌, ◌+◌, ◌-◌, ◌*◌, ◌/◌, ◌%◌, ◌<◌, ◌≤◌, Bool, true, false, List, [], ◌∷◌, length, drop, refl, sym, ◌∙◌, arith, ⊎_elim}
use Rattle.std.specs.Prelude.{◌==◌, ◌||◌, ◌&&◌}
use Rattle.std.specs.Fmt.{digit_glyph}
use Rattle.std.proofs.Math.Seq.{drop-cons}
use Rattle.std.proofs.lemmas.Bool.{cases_lt}
use Rattle.std.proofs.lemmas.Bool.Decides.{nat_tests}
use Rattle.std.proofs.lemmas.List.{drop_all}
use Rattle.net_graph.specs.Flags.{has, flag_of_four}
use Rattle.answer_text.specs.AnswerLine.{Line}
use Rattle.answer_text.specs.LineKinds as line
use Rattle.answer_text.specs.declared.scan.Kept.{Kept}
use Rattle.answer_text.specs.declared.scan.Scan.TheVariants as scan
use Rattle.answer_text.specs.Words.{four_digit, set_text}
use Rattle.answer_text.specs.SetLaws.{digit_at_place, length-set_text, get_or-set_text, hex_value, flag_at_place}
use Rattle.answer_text.specs.Scanning.{SetLeft, LeadsTo, IsDead, IsSound}
use Rattle.answer_text.proofs.lemmas.Digits.{four_value-below}

-- ---- digits and the flags that they tell

-- the digit of the flags that a value tells is the value's
glyph_of_flags : (value : ℕ) → value < 16 → four_digit (flag_of_four value 0) (flag_of_four value 1) (flag_of_four value 2) (flag_of_four value 3) ≡ digit_glyph false value
glyph_of_flags zero few = refl
glyph_of_flags (suc zero) few = refl
glyph_of_flags (suc (suc zero)) few = refl
glyph_of_flags (suc (suc (suc zero))) few = refl
glyph_of_flags (suc (suc (suc (suc zero)))) few = refl
glyph_of_flags (suc (suc (suc (suc (suc zero))))) few = refl
glyph_of_flags (suc (suc (suc (suc (suc (suc zero)))))) few = refl
glyph_of_flags (suc (suc (suc (suc (suc (suc (suc zero))))))) few = refl
glyph_of_flags (suc (suc (suc (suc (suc (suc (suc (suc zero)))))))) few = refl
glyph_of_flags (suc (suc (suc (suc (suc (suc (suc (suc (suc zero))))))))) few = refl
glyph_of_flags (suc (suc (suc (suc (suc (suc (suc (suc (suc (suc zero)))))))))) few = refl
glyph_of_flags (suc (suc (suc (suc (suc (suc (suc (suc (suc (suc (suc zero))))))))))) few = refl
glyph_of_flags (suc (suc (suc (suc (suc (suc (suc (suc (suc (suc (suc (suc zero)))))))))))) few = refl
glyph_of_flags (suc (suc (suc (suc (suc (suc (suc (suc (suc (suc (suc (suc (suc zero))))))))))))) few = refl
glyph_of_flags (suc (suc (suc (suc (suc (suc (suc (suc (suc (suc (suc (suc (suc (suc zero)))))))))))))) few = refl
glyph_of_flags (suc (suc (suc (suc (suc (suc (suc (suc (suc (suc (suc (suc (suc (suc (suc zero))))))))))))))) few = refl
glyph_of_flags (suc (suc (suc (suc (suc (suc (suc (suc (suc (suc (suc (suc (suc (suc (suc (suc value)))))))))))))))) few = absurd (omega arith)

-- a digit tells its value
hex_value-glyph : (value : ℕ) → value < 16 → hex_value (digit_glyph false value) ≡ value
hex_value-glyph zero few = refl
hex_value-glyph (suc zero) few = refl
hex_value-glyph (suc (suc zero)) few = refl
hex_value-glyph (suc (suc (suc zero))) few = refl
hex_value-glyph (suc (suc (suc (suc zero)))) few = refl
hex_value-glyph (suc (suc (suc (suc (suc zero))))) few = refl
hex_value-glyph (suc (suc (suc (suc (suc (suc zero)))))) few = refl
hex_value-glyph (suc (suc (suc (suc (suc (suc (suc zero))))))) few = refl
hex_value-glyph (suc (suc (suc (suc (suc (suc (suc (suc zero)))))))) few = refl
hex_value-glyph (suc (suc (suc (suc (suc (suc (suc (suc (suc zero))))))))) few = refl
hex_value-glyph (suc (suc (suc (suc (suc (suc (suc (suc (suc (suc zero)))))))))) few = refl
hex_value-glyph (suc (suc (suc (suc (suc (suc (suc (suc (suc (suc (suc zero))))))))))) few = refl
hex_value-glyph (suc (suc (suc (suc (suc (suc (suc (suc (suc (suc (suc (suc zero)))))))))))) few = refl
hex_value-glyph (suc (suc (suc (suc (suc (suc (suc (suc (suc (suc (suc (suc (suc zero))))))))))))) few = refl
hex_value-glyph (suc (suc (suc (suc (suc (suc (suc (suc (suc (suc (suc (suc (suc (suc zero)))))))))))))) few = refl
hex_value-glyph (suc (suc (suc (suc (suc (suc (suc (suc (suc (suc (suc (suc (suc (suc (suc zero))))))))))))))) few = refl
hex_value-glyph (suc (suc (suc (suc (suc (suc (suc (suc (suc (suc (suc (suc (suc (suc (suc (suc value)))))))))))))))) few = absurd (omega arith)

-- ---- one digit more

-- what a digit makes of the set
pub record TakesDigit (k k' : Kept) (place value byte : ℕ) : Type 0 where
  pub few : value < 16
  pub digit : byte ≡ digit_glyph false value
  pub inside : 4 * place < length k.members
  pub size : length k'.members ≡ length k.members
  pub flags : (n : ℕ) → has k'.members n ≡ (has k.members n || (n / 4 == place && flag_of_four value (n % 4)))
  pub weight : k'.weight ≡ k.weight
  pub later : (v : ℕ) → 4 * place ≤ v → has k.members v ≡ false

-- the flags before its four
flag_apart : (k k' : Kept) (place value byte v : ℕ) → TakesDigit k k' place value byte → (v / 4 ≡ place → ⊥) → has k'.members v ≡ has k.members v
flag_apart k k' place value byte v takes apart = grind arith

-- and these four
flag_here : (k k' : Kept) (place value byte v r : ℕ) → TakesDigit k k' place value byte → r < 4 → v ≡ 4 * place + r → has k'.members v ≡ flag_of_four value r
flag_here k k' place value byte v r takes below is = grind (arith, nat_tests, takes.flags v)

-- a set whose digit is the byte has the flags that the byte tells
flag_of_digit : (set : List Bool) (place value byte v r : ℕ) → value < 16 → byte ≡ digit_glyph false value → byte ≡ digit_at_place set place → r < 4 → v ≡ 4 * place + r → has set v ≡ flag_of_four value r
flag_of_digit set place value byte v r few digit at below is =
    grind (arith, digit_at_place set place, flag_at_place set place r v below is, hex_value, hex_value-glyph value few)

-- the digits from a place on
digits_split : (set : List Bool) (place : ℕ) → 4 * place < length set → drop place (set_text set) ≡ digit_at_place set place ∷ drop (place + 1) (set_text set)
digits_split set place inside =
    let within : place < length (set_text set) = omega (arith, length-set_text set) in
    let next : suc place ≡ place + 1 = omega arith in
    drop-cons (set_text set) place 0 within ∙ (λ i. get_or-set_text set place within i ∷ drop (next i) (set_text set))

pub leads-set : (k k' : Kept) (place value byte : ℕ) → TakesDigit k k' place value byte → LeadsTo k (scan.Set place) byte k' (scan.Set (place + 1))
leads-set k k' place value byte takes = record {
  on = λ rest l h.
      let size = h.size in
      let inside = takes.inside in
      let split : byte ∷ rest ≡ digit_at_place h.set place ∷ drop (place + 1) (set_text h.set) = h.text ∙ digits_split h.set place (omega arith) in
      let at : byte ≡ digit_at_place h.set place = cc in
      record {
        set = h.set;
        size = h.size ∙ sym takes.size;
        same = λ v below. ⊎_elim
            (λ (before : v < 4 * place). h.same v before ∙ sym (flag_apart k k' place value byte v takes (λ e. omega arith)))
            (λ (here : 4 * place ≤ v).
            let r_below : v - 4 * place < 4 = omega arith in
            let is : v ≡ 4 * place + (v - 4 * place) = omega arith in
            flag_of_digit h.set place value byte v (v - 4 * place) takes.few takes.digit at r_below is ∙ sym (flag_here k k' place value byte v (v - 4 * place) takes r_below is))
            (cases_lt v (4 * place));
        text = cc;
        line = h.line ∙ (λ i. line.Cut (record { weight = sym takes.weight i; members = h.set }));
        weight = (rw takes.weight h.weight.0, rw takes.weight h.weight.1);
      };
  back = λ rest l h.
      let size = h.size in
      let inside = takes.inside in
      let size' = takes.size in
      let four = λ (r : ℕ) (below : r < 4). h.same (4 * place + r) (omega arith) ∙ flag_here k k' place value byte (4 * place + r) r takes below refl in
      let first : has h.set (4 * place) ≡ flag_of_four value 0 = h.same (4 * place) (omega arith) ∙ flag_here k k' place value byte (4 * place) 0 takes (omega arith) (omega arith) in
      let digit : digit_at_place h.set place ≡ byte =
      (λ i. four_digit (first i) (four 1 (omega arith) i) (four 2 (omega arith) i) (four 3 (omega arith) i)) ∙ glyph_of_flags value takes.few ∙ sym takes.digit in
      record {
        set = h.set;
        size = h.size ∙ takes.size;
        same = λ v below. h.same v (omega arith) ∙ flag_apart k k' place value byte v takes (λ e. omega arith);
        text = (λ i. sym digit i ∷ h.text i) ∙ sym (digits_split h.set place (omega arith));
        line = h.line ∙ (λ i. line.Cut (record { weight = takes.weight i; members = h.set }));
        weight = (rw (sym takes.weight) h.weight.0, rw (sym takes.weight) h.weight.1);
      };
}

pub set-sound : (k k' : Kept) (place value byte : ℕ) → TakesDigit k k' place value byte → IsSound k (scan.Set place) → IsSound k' (scan.Set (place + 1))
set-sound k k' place value byte takes sound = grind (arith, flag_apart)

-- ---- bytes that are no digit of a set

-- the digit that is due is the set's
pub due_digit : (k : Kept) (place byte : ℕ) (rest : List ℕ) (l : Line) → (h : SetLeft k place (byte ∷ rest) l) → (4 * place < length k.members) × (byte ≡ digit_at_place h.set place)
due_digit k place byte rest l h = grind (arith, digits_split, drop_all, length-set_text)

pub dead-glyph : (k : Kept) (place byte : ℕ) → ((value : ℕ) → value < 16 → byte ≡ digit_glyph false value → ⊥) → IsDead k (scan.Set place) byte
dead-glyph k place byte none rest l h =
    grind (arith, due_digit k place byte rest l h, four_value-below (has h.set (4 * place)) (has h.set (4 * place + 1)) (has h.set (4 * place + 2)) (has h.set (4 * place + 3)))

pub dead-past : (k : Kept) (place byte : ℕ) → length k.members ≤ 4 * place → IsDead k (scan.Set place) byte
dead-past k place byte past rest l h = let due = due_digit k place byte rest l h in let inside = due.0 in omega arith

-- no set has a member at or above its size
has_inside : (set : List Bool) (v : ℕ) → has set v ≡ true → v < length set
has_inside [] v is = absurd cc
has_inside (a ∷ set) zero is = omega arith
has_inside (a ∷ set) (suc v) is = let more = has_inside set v is in omega arith

pub dead-stray : (k : Kept) (place value byte : ℕ) → value < 16 → byte ≡ digit_glyph false value → (((r : ℕ) → r < 4 → flag_of_four value r ≡ true → r < length k.members - 4 * place) → ⊥) → IsDead k (scan.Set place) byte
dead-stray k place value byte few digit stray rest l h =
    let due = due_digit k place byte rest l h in
    let size = h.size in
    stray (λ r below is.
    let member : has h.set (4 * place + r) ≡ true = flag_of_digit h.set place value byte (4 * place + r) r few digit due.1 below refl ∙ is in
    let inside = has_inside h.set (4 * place + r) member in
    omega arith)
