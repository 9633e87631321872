-- Pieces of a text that are determined by a list that begins with them.
use Rattle.std.proofs.Common.{ℕ, ◌≡◌, ◌≢◌, ◌^◌, ◌<◌, Bool, List, ◌∷◌, ◌++◌, get_or, sym, ap, ◌∙◌, arith}
use Rattle.std.specs.Fmt.{decimal}
use Rattle.std.specs.Str.Parse.{digits_value}
use Rattle.std.proofs.lemmas.Fmt.{decimal_is_IsNumeral_wide}
use Rattle.std.proofs.lemmas.Str.Parse.{digit_at}
use Rattle.std.proofs.lemmas.List.Elements.{All-from_get_or}
use Rattle.text_in.specs.Words.{Lacks}
use Rattle.text_in.specs.Fronts.{front_unique}
use Rattle.answer_text.specs.Words.{status_word}

-- No digit is a byte below the digits.
pub number-lacks : (n byte : ℕ) → n < 2 ^ 128 → byte < 48 → Lacks (decimal n) byte
number-lacks n byte fits low = All-from_get_or (λ b. b ≢ byte) (decimal n) 0
    (λ i inside. let digit = digit_at (decimal n) i ((decimal_is_IsNumeral_wide n (omega arith)).0.1) inside in omega arith)

-- A number is told by its digits.
pub number_one : (m n : ℕ) → m < 2 ^ 128 → n < 2 ^ 128 → decimal m ≡ decimal n → m ≡ n
number_one m n p q e =
    sym ((decimal_is_IsNumeral_wide m (omega arith)).1) ∙ ap (digits_value 10) e ∙ (decimal_is_IsNumeral_wide n (omega arith)).1

-- A number is told by a list that begins with its digits and a byte below the digits.
pub number_front : (byte m n : ℕ) (p q : List ℕ) → byte < 48 → m < 2 ^ 128 → n < 2 ^ 128
    → decimal m ++ byte ∷ p ≡ decimal n ++ byte ∷ q → (m ≡ n) × (p ≡ q)
number_front byte m n p q low f g e =
    let same = front_unique byte (decimal m) (decimal n) p q (number-lacks m byte f low) (number-lacks n byte g low) e in
    (number_one m n f g same.0, same.1)

-- Lists that begin with two bytes are two.
pub first_apart : {x y : List ℕ} (a b : ℕ) → a ≢ b → a ∷ x ≡ b ∷ y → ⊥
first_apart a b apart e = apart (ap (λ s. get_or s 0 0) e)

-- A status is told by a list that begins with its word.
pub status_front : (a b : Bool) (p q : List ℕ) → status_word a ++ p ≡ status_word b ++ q → (a ≡ b) × (p ≡ q)
status_front a b p q e = grind arith

-- Texts of which each is determined by a list that begins with it.
abbrev pub IsToldByFront : {A : Type 0} → (A → Type 0) → (A → List ℕ) → Type 0
IsToldByFront {A} Fits text = (x y : A) (p q : List ℕ) → Fits x → Fits y → text x ++ p ≡ text y ++ q → (x ≡ y) × (p ≡ q)
