-- What a blank makes of a number that was read.
use Rattle.std.proofs.Common.{ℕ, ◌≡◌, Bool, refl, sym, subst, arith}
use Rattle.answer_text.specs.declared.scan.Kept.{Kept}
use Rattle.answer_text.specs.declared.scan.Field.{Field}
use Rattle.answer_text.specs.declared.scan.Field.TheVariants as field
use Rattle.answer_text.specs.declared.scan.Corner.{Corner}
use Rattle.answer_text.specs.declared.scan.Corner.TheVariants as corner
use Rattle.answer_text.specs.declared.scan.Scan.TheVariants as scan
use Rattle.answer_text.specs.Scanning.{IsInField, IsLast, IsDead}
use Rattle.answer_text.proofs.lemmas.ScanNumbers.{dead-blank}

pub dead-last : (k : Kept) (f : Field) (c : Corner) (minus : Bool) (v : ℕ) → f ≡ field.Coordinate c minus → IsLast c → IsInField f v → IsDead k (scan.Number f v) 32
dead-last k f c minus v is last inside =
    let there : IsInField (field.Coordinate c minus) v = subst (λ g. IsInField g v) is inside in
    subst (λ g. IsDead k (scan.Number g v) 32) (sym is) (dead-blank k (field.Coordinate c minus) v there (λ rest l h. grind arith))

-- nor behind the last number of another line
pub dead-other : (k : Kept) (f : Field) (v : ℕ) → (f ≡ field.Weight → ⊥) → ((c : Corner) (minus : Bool) → f ≡ field.Coordinate c minus → ⊥) → IsInField f v → IsDead k (scan.Number f v) 32
dead-other k field.Length v weight name inside = dead-blank k field.Length v inside (λ rest l h. let text = h.0 in cc)
dead-other k field.Bound v weight name inside = dead-blank k field.Bound v inside (λ rest l h. let text = h.0 in cc)
dead-other k field.Openings v weight name inside = dead-blank k field.Openings v inside (λ rest l h. let text = h.0 in cc)
dead-other k (field.Total least) v weight name inside = dead-blank k (field.Total least) v inside (λ rest l h. let text = h.0 in cc)
dead-other k field.LastOpenings v weight name inside = dead-blank k field.LastOpenings v inside (λ rest l h. let text = h.0 in cc)
dead-other k (field.Count most) v weight name inside = dead-blank k (field.Count most) v inside (λ rest l h. let text = h.0 in cc)
dead-other k (field.EdgeNumber last) v weight name inside = dead-blank k (field.EdgeNumber last) v inside (λ rest l h. let text = h.0 in cc)
dead-other k (field.VertexNumber last) v weight name inside = dead-blank k (field.VertexNumber last) v inside (λ rest l h. let text = h.0 in cc)
dead-other k field.Leaf v weight name inside = dead-blank k field.Leaf v inside (λ rest l h. let text = h.0 in cc)
dead-other k field.Weight v weight name inside = absurd (weight refl)
dead-other k (field.Coordinate c minus) v weight name inside = absurd (name c minus refl)
