-- A set of a known size is told by its digits.
use Rattle.std.proofs.Common.{ℕ, ◌≡◌, ◌<◌, ◌≤◌, Bool, List, [], ◌∷◌, ◌++◌, length, refl, arith}
use Rattle.std.proofs.lemmas.Bool.Decides.{nat_tests}
use Rattle.answer_text.specs.Words.{flag_value, four_value, four_digit, set_text}

-- a flag counts at most once
flag_value-le : (a : Bool) → flag_value a ≤ 1
flag_value-le a = grind arith

-- four flags are worth less than 16
pub four_value-below : (a b c d : Bool) → four_value a b c d < 16
four_value-below a b c d = omega (arith, flag_value-le a, flag_value-le b, flag_value-le c, flag_value-le d)

-- four flags are told by their digit
four_one : (a b c d a' b' c' d' : Bool) → four_digit a b c d ≡ four_digit a' b' c' d' → (a ≡ a') × (b ≡ b') × (c ≡ c') × (d ≡ d')
four_one a b c d a' b' c' d' e = grind (arith, nat_tests, flag_value-le)

-- a set is told by its digits, whatever follows them
pub set_front : (s t : List Bool) (p q : List ℕ) → length s ≡ length t → set_text s ++ p ≡ set_text t ++ q → (s ≡ t) × (p ≡ q)
set_front [] [] p q size e = (refl, e)
set_front (a ∷ []) (a' ∷ []) p q size e = grind arith
set_front (a ∷ b ∷ []) (a' ∷ b' ∷ []) p q size e = search (four_one, arith)
set_front (a ∷ b ∷ c ∷ []) (a' ∷ b' ∷ c' ∷ []) p q size e = grind (arith, four_one)
set_front (a ∷ b ∷ c ∷ d ∷ s) (a' ∷ b' ∷ c' ∷ d' ∷ t) p q size e =
    let same = four_one a b c d a' b' c' d' (cc) in
    let rest = set_front s t p q (omega arith) (cc) in
    (cc, rest.1)
set_front s t p q size e = absurd (omega arith)
