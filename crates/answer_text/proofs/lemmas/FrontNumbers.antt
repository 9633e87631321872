-- What stands at the front of a number's digits is the spelling of a number that is no greater.
use Rattle.std.proofs.Common.{ℕ, ◌≡◌, ◌+◌, ◌-◌, ◌*◌, ◌/◌, ◌%◌, ◌<◌, ◌≤◌, ◌^◌, List, [], ◌∷◌, ◌++◌, length, refl, sym, ap, ◌∙◌, arith, append_assoc, length-append, inl, inr, ⊎_elim}
use Rattle.std.specs.Prelude.{◌⊎◌}
use Rattle.std.specs.Fmt.{decimal}
use Rattle.std.proofs.lemmas.Bool.{cases_lt}
use Rattle.std.proofs.lemmas.Fmt.{decimal_digit, decimal_step_wide, decimal_by_steps_wide, decimal_is_IsNumeral_wide}
use Rattle.answer_text.proofs.lemmas.Pieces.{number_one}

-- ---- lists by their last

-- a front of a list is the whole list, or stands before the last
last_cases : (ds front rest : List ℕ) (x : ℕ) → ds ++ x ∷ [] ≡ front ++ rest
    → (front ≡ ds ++ x ∷ []) ⊎ ((more : List ℕ) × (ds ≡ front ++ more) × (rest ≡ more ++ x ∷ []))
last_cases ds [] rest x e = inr (ds, refl, sym e)
last_cases [] (f ∷ []) rest x e = let same : f ≡ x = cc in inl (ap (λ y. y ∷ []) same)
last_cases [] (f ∷ g ∷ front) rest x e = absurd cc
last_cases (d ∷ ds) (f ∷ front) rest x e = grind (arith, last_cases ds front rest x cc)

-- lists with one more each are the same with it
last_same : (xs ys : List ℕ) (x y : ℕ) → xs ++ x ∷ [] ≡ ys ++ y ∷ [] → (xs ≡ ys) × (x ≡ y)
last_same [] [] x y e = (refl, cc)
last_same [] (b ∷ ys) x y e = let short = ap length e in absurd (omega (arith, length-append ys (y ∷ [])))
last_same (a ∷ xs) [] x y e = let short = ap length e in absurd (omega (arith, length-append xs (x ∷ [])))
last_same (a ∷ xs) (b ∷ ys) x y e = search (last_same xs ys x y cc)

-- ---- fronts of digits

-- the number that a front spells
record FrontNumber (n : ℕ) (front : List ℕ) : Type 0 where
  value : ℕ
  is : front ≡ decimal value
  least : value ≤ n
  some : 0 < n → 0 < value

-- the digits are the number's, and each front of them spells one
record Fronts (n : ℕ) (ds : List ℕ) : Type 0 where
  spelled : ds ≡ decimal n
  front : (front rest : List ℕ) → 0 < length front → ds ≡ front ++ rest → FrontNumber n front

-- a front of one digit
one_front : (n : ℕ) → n < 10 → n < 10 ^ 64 → Fronts n ((48 + n) ∷ [])
one_front n few fits = record {
  spelled = sym (decimal_digit n few);
  front = λ front rest some e. ⊎_elim
      (λ (whole : front ≡ (48 + n) ∷ []). record { value = n; is = whole ∙ sym (decimal_digit n few); least = omega arith; some = λ k. k })
      (λ (before : (more : List ℕ) × ([] ≡ front ++ more) × (rest ≡ more ++ (48 + n) ∷ [])).
      let none = ap length before.1 in absurd (omega (arith, length-append front before.0)))
      (last_cases [] front rest (48 + n) e);
}

-- fronts of a digit more
more_fronts : (n : ℕ) (ds : List ℕ) → 10 ≤ n → (n / 10 < 10 ^ 64 → Fronts (n / 10) ds) → n < 10 ^ 64 → Fronts n (ds ++ (48 + n % 10) ∷ [])
more_fronts n ds many shorter fits =
    let before = shorter (omega arith) in
    let spelled : ds ++ (48 + n % 10) ∷ [] ≡ decimal n = ap (λ x. x ++ (48 + n % 10) ∷ []) before.spelled ∙ sym (decimal_step_wide n many fits) in
    record {
      spelled = spelled;
      front = λ front rest some e. ⊎_elim
          (λ (whole : front ≡ ds ++ (48 + n % 10) ∷ []). record { value = n; is = whole ∙ spelled; least = omega arith; some = λ k. k })
          (λ (shorter_front : (more : List ℕ) × (ds ≡ front ++ more) × (rest ≡ more ++ (48 + n % 10) ∷ [])).
          let number = before.front front shorter_front.0 some shorter_front.1 in
          let part : 0 < n / 10 = omega arith in
          let positive = number.some part in
          record { value = number.value; is = number.is; least = let l = number.least in omega arith; some = λ k. positive })
          (last_cases ds front rest (48 + n % 10) e);
    }

fronts_of : (n : ℕ) → n < 10 ^ 64 → Fronts n (decimal n)
fronts_of n fits = decimal_by_steps_wide (λ m ds. m < 10 ^ 64 → Fronts m ds) one_front more_fronts n fits fits

-- ---- the digits of a number

-- there are some
pub digits_some : (n : ℕ) → n < 2 ^ 128 → 0 < length (decimal n)
digits_some n fits = (decimal_is_IsNumeral_wide n (omega arith)).0.0

-- one digit behind the digits of a number that is not 0
pub digit_more : (v d : ℕ) → 0 < v → d < 10 → 10 * v + d < 2 ^ 128 → decimal (10 * v + d) ≡ decimal v ++ (48 + d) ∷ []
digit_more v d some few fits = grind (arith, decimal_step_wide)

-- what a byte in a number behind the digits of v is
pub record IsNextDigit (v n b : ℕ) : Type 0 where
  pub low : 48 ≤ b
  pub high : b < 58
  pub some : 0 < v
  pub within : 10 * v + (b - 48) ≤ n

pub next_digit : (v n b : ℕ) (rest : List ℕ) → v < 2 ^ 128 → n < 2 ^ 128 → decimal n ≡ decimal v ++ b ∷ rest → IsNextDigit v n b
next_digit v n b rest f g e =
    grind (arith, append_assoc (decimal v) (b ∷ []) rest, length-append (decimal v) (b ∷ []), digits_some v f, fronts_of, decimal_digit, last_same, decimal_step_wide, number_one, cases_lt)

-- what the first byte of a number is
pub record IsFirstDigit (n b : ℕ) : Type 0 where
  pub low : 48 ≤ b
  pub high : b < 58
  pub some : 0 < n → 48 < b
  pub within : b - 48 ≤ n

pub first_digit : (n b : ℕ) (rest : List ℕ) → n < 2 ^ 128 → decimal n ≡ b ∷ rest → IsFirstDigit n b
first_digit n b rest g e =
    let front = (fronts_of n (omega arith)).front (b ∷ []) rest (omega arith) e in
    let w = front.value in
    let below = front.least in
    let some = front.some in
    ⊎_elim
    (λ (few : w < 10).
    let byte : b ≡ 48 + w = let digits = front.is ∙ decimal_digit w few in cc in
    record { low = omega arith; high = omega arith; some = λ k. (let s = some k in omega arith); within = omega arith })
    (λ (many : 10 ≤ w).
    let digits = ap length (front.is ∙ decimal_step_wide w many (omega arith)) in
    let part = digits_some (w / 10) (omega arith) in
    absurd (omega (arith, length-append (decimal (w / 10)) ((48 + w % 10) ∷ []))))
    (cases_lt w 10)

-- a digit spells its value
pub digit_spelled : (b : ℕ) → 48 ≤ b → b < 58 → decimal (b - 48) ≡ b ∷ []
digit_spelled b low high = let byte : 48 + (b - 48) ≡ b = omega arith in decimal_digit (b - 48) (omega arith) ∙ ap (λ x. x ∷ []) byte
