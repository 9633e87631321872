-- A word that is no number rules out each box.
use Rattle.std.proofs.Common.{arith}
use Rattle.std.specs.Prelude.{ℕ, ◌≡◌, ℤ, FitsSigned, List, ◌∷◌}
use Rattle.std.specs.Int.{w64}
use Rattle.std.specs.Fmt.{signed_decimal}
use Rattle.obstacles_in.specs.declared.rectangle.Rectangle.{Rectangle}
use Rattle.section_text.specs.Faults.{SpellsItem}
use Rattle.obstacles_in.specs.Format.{obstacles_format}

-- no number of 64 bits comes first
abbrev pub HasNoNumber : List (List ℕ) → Type 0
HasNoNumber words = (z : ℤ) (rest : List (List ℕ)) → FitsSigned w64 z → words ≡ signed_decimal z ∷ rest → ⊥

-- behind three words
pub no_upper : (words w1 w2 w3 : List (List ℕ)) (a b d : List ℕ) → words ≡ a ∷ w1 → w1 ≡ b ∷ w2 → w2 ≡ d ∷ w3
    → HasNoNumber w3
    → (r : Rectangle) → SpellsItem obstacles_format words r → ⊥
no_upper words w1 w2 w3 a b d e1 e2 e3 none r spells = grind (arith, none r.y2)
