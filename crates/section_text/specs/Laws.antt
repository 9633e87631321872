-- Laws of the texts of a format, and what follows of them.
use Rattle.std.specs.Prelude.{ℕ, ◌≡◌, ◌↔◌, List, [], ◌++◌, Result, Ok, Err}
use Rattle.section_text.specs.Format.{Format}
use Rattle.section_text.specs.Text.{Spells}
use Rattle.section_text.specs.Judged.{IsOutcome}

-- bytes come to one outcome at most: to one value, or to one first fault
abbrev pub OneOutcome : {X F V : Type 0} → Format X F V → Type 0
OneOutcome {F = F} {V = V} fm =
    (bytes : List ℕ) (o o' : Result V F) → IsOutcome fm bytes o → IsOutcome fm bytes o' → o ≡ o'

-- bytes come to a value exactly where they spell it
abbrev pub ValuesAreSpelled : {X F V : Type 0} → Format X F V → Type 0
ValuesAreSpelled {V = V} fm = (bytes : List ℕ) (v : V) → IsOutcome fm bytes (Ok v) ↔ Spells fm bytes v

-- bytes spell one value at most, and no spelling is a proper prefix of another
abbrev pub OneReading : {X F V : Type 0} → Format X F V → Type 0
OneReading {V = V} fm =
    (bytes more : List ℕ) (v w : V) → Spells fm bytes v → Spells fm (bytes ++ more) w → (v ≡ w) × (more ≡ [])

-- So bytes that spell a value come to no fault, and spell no other value.
module _ {X F V : Type 0} (fm : Format X F V) (one : OneOutcome fm) (spelled : ValuesAreSpelled fm) where
  pub no_fault : (bytes : List ℕ) (v : V) (f : F) → Spells fm bytes v → IsOutcome fm bytes (Err f) → ⊥
  no_fault bytes v f is wrong =
      let same : Ok v ≡ Err f = one bytes (Ok v) (Err f) ((spelled bytes v).1 is) wrong in absurd cc

  pub one_value : (bytes : List ℕ) (v w : V) → Spells fm bytes v → Spells fm bytes w → v ≡ w
  one_value bytes v w is are =
      let same : Ok v ≡ Ok w = one bytes (Ok v) (Ok w) ((spelled bytes v).1 is) ((spelled bytes w).1 are) in cc
