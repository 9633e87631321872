-- What was read at the front of a line, and what could not be read.
use Rattle.std.proofs.Common.{◌≡◌, ◌∷◌, ◌++◌, append_assoc, Option, arith}
use Rattle.std.specs.Prelude.{IfSome, IfNone}
use Rattle.std.specs.Fmt.{signed_decimal}
use Rattle.hanan_grid.specs.declared.name.EdgeName.{EdgeName}
use Rattle.points_in.specs.declared.point.Point.{Point}
use Rattle.answer_text.specs.Words.{name_words, point_words}

-- what follows from a fact for None holds for None
pub none_then : {X P Q : Type 0} (r : Option X) → IfNone r P → (P → Q) → IfNone r Q
none_then r p f = grind arith

-- the words of a name, one after another
pub name_pieces : (e : EdgeName) → name_words e ≡ signed_decimal e.x1 ++ 32 ∷ (signed_decimal e.y1 ++ 32 ∷ (signed_decimal e.x2 ++ 32 ∷ signed_decimal e.y2))
name_pieces e = simp append_assoc

-- the words of a point
pub point_pieces : (p : Point) → point_words p ≡ signed_decimal p.x ++ 32 ∷ signed_decimal p.y
point_pieces p = simp append_assoc

-- what follows from a fact for Some holds for Some
pub some_then : {X : Type 0} {P Q : X → Type 0} (r : Option X) → IfSome r P → ((x : X) → P x → Q x) → IfSome r Q
some_then r p f = grind arith
