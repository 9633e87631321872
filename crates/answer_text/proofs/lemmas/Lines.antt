-- The line of a cut, of an edge's ends and of a point is determined by a list that begins with it.
use Rattle.std.proofs.Common.{ℕ, ◌≡◌, List, [], ◌∷◌, ◌++◌, arith, append_assoc}
use Rattle.std.specs.Prelude.{codes}
use Rattle.std.specs.Fmt.{decimal, signed_decimal}
use Rattle.std.proofs.lemmas.List.{append_cancel_left}
use Rattle.text_in.specs.Numbers.{signed_front_unique}
use Rattle.points_in.specs.declared.point.Point.{Point}
use Rattle.net_graph.specs.declared.packing.Cut.{Cut}
use Rattle.hanan_grid.specs.declared.name.EdgeName.{EdgeName}
use Rattle.answer_text.specs.LineKinds as line
use Rattle.answer_text.specs.Lines.{line_text}
use Rattle.answer_text.specs.Spelling.{FitsName, FitsPoint, FitsCut}
use Rattle.answer_text.specs.Words.{name_words, point_words, set_text}
use Rattle.answer_text.proofs.lemmas.Digits.{set_front}
use Rattle.answer_text.proofs.lemmas.Pieces.{number_front, IsToldByFront}

-- cuts with the same parts are the same
same_cut : (c d : Cut) → c.weight ≡ d.weight → c.members ≡ d.members → c ≡ d
same_cut c d weight members = λ i. record { weight = weight i; members = members i }

-- a cut's line and what follows it, piece by piece
cut_pieces : (c : Cut) (p : List ℕ) → line_text (line.Cut c) ++ p ≡ codes "cut " ++ (decimal c.weight ++ 32 ∷ (set_text c.members ++ 10 ∷ p))
cut_pieces c p = simp append_assoc

-- the line of a cut
pub cut_front : (V : ℕ) → IsToldByFront (FitsCut V) (λ c. line_text (line.Cut c))
cut_front V c d p q f g e = grind (arith, append_cancel_left, cut_pieces, number_front, set_front, same_cut)

-- names with the same coordinates are the same
same_name : (d e : EdgeName) → d.x1 ≡ e.x1 → d.y1 ≡ e.y1 → d.x2 ≡ e.x2 → d.y2 ≡ e.y2 → d ≡ e
same_name d e x1 y1 x2 y2 = λ i. record { x1 = x1 i; y1 = y1 i; x2 = x2 i; y2 = y2 i }

-- what stands from a coordinate of a name on
abbrev from_y2 : EdgeName → List ℕ → List ℕ
from_y2 e p = signed_decimal e.y2 ++ 10 ∷ p

abbrev from_x2 : EdgeName → List ℕ → List ℕ
from_x2 e p = signed_decimal e.x2 ++ 32 ∷ from_y2 e p

abbrev from_y1 : EdgeName → List ℕ → List ℕ
from_y1 e p = signed_decimal e.y1 ++ 32 ∷ from_x2 e p

-- an edge's ends and what follows them, piece by piece
edge_pieces : (e : EdgeName) (p : List ℕ) → (name_words e ++ 10 ∷ []) ++ p ≡ signed_decimal e.x1 ++ 32 ∷ from_y1 e p
edge_pieces e p = simp append_assoc

-- the words of an edge's ends
pub edge_front : IsToldByFront FitsName (λ e. name_words e ++ 10 ∷ [])
edge_front d e p q f g h = grind (arith, signed_front_unique, edge_pieces, same_name)

-- a point's words and what follows them, piece by piece
point_pieces : (p : Point) (r : List ℕ) → (point_words p ++ 10 ∷ []) ++ r ≡ signed_decimal p.x ++ 32 ∷ (signed_decimal p.y ++ 10 ∷ r)
point_pieces p r = simp append_assoc

-- the words of a point
pub point_front : IsToldByFront FitsPoint (λ p. point_words p ++ 10 ∷ [])
point_front d e p q f g h = grind (arith, signed_front_unique, point_pieces)
