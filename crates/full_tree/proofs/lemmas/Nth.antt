-- Which piece stands at which number.
use Rattle.std.proofs.Common.{ℕ, zero, suc, ◌+◌, ◌≡◌, ◌<◌, false, List, [], ◌∷◌, ◌++◌, length, get_or, map, refl, ap, ◌∙◌, arith, length-append}
use Rattle.std.specs.Prelude.{pos, Option, Some, option_map, option_to_list, slice_get}
use Rattle.std.specs.Ordering.{int_eq}
use Rattle.std.proofs.lemmas.List.{length-map}
use Rattle.std.proofs.lemmas.Option.{slice_get-map, slice_get-get_or}
use Rattle.lists.specs.ListLaws.{slice_get-append_left}
use Rattle.points_in.specs.declared.point.Point.{Point}
use Rattle.full_tree.specs.declared.way.Way.{Way}
use Rattle.full_tree.specs.declared.straight.Piece.{Piece}
use Rattle.full_tree.specs.declared.code.TreeCode.TheVariants.{Long}
use Rattle.full_tree.specs.Geometry.{point_at}
use Rattle.full_tree.specs.Form.{across_of}
use Rattle.full_tree.specs.Pieces.{piece_between, line_over, foot, side_foot, long_leg, short_leg, drop_pieces, side_piece, pieces_of}

-- what stands in the second stands behind the first
slice_get-append_right : {X : Type 0} (xs ys : List X) (n k : ℕ) (x : X) → n ≡ length xs + k → slice_get ys k ≡ Some x → slice_get (xs ++ ys) n ≡ Some x
slice_get-append_right [] ys n k x is at = let here : n ≡ k = omega arith in rw here at
slice_get-append_right (y ∷ xs) ys zero k x is at = absurd (omega arith)
slice_get-append_right (y ∷ xs) ys (suc n) k x is at = slice_get-append_right xs ys n k x (omega arith) at

-- a line's pieces lead from each of its points to the next one
pub slice_get-line_over : (p : Point) (qs : List Point) (n : ℕ) (d : Point) → n < length qs → slice_get (line_over p qs) n ≡ Some (piece_between (get_or (p ∷ qs) n d) (get_or (p ∷ qs) (n + 1) d))
slice_get-line_over p [] n d inside = absurd (omega arith)
slice_get-line_over p (q ∷ qs) zero d inside = refl
slice_get-line_over p (q ∷ qs) (suc n) d inside = let next : suc n + 1 ≡ suc (n + 1) = omega arith in rw next (slice_get-line_over q qs n d (omega arith))

-- how many pieces there are
length-line_over : (p : Point) (qs : List Point) → length (line_over p qs) ≡ length qs
length-line_over p [] = refl
length-line_over p (q ∷ qs) = omega (arith, length-line_over q qs)

pub length-long_leg : (ps : List Point) (root : ℕ) (w : Way) (drops : List ℕ) (tip : ℕ) → length (long_leg ps root w drops tip) ≡ length drops + 1
length-long_leg ps root w drops tip =
    grind (arith, length-line_over (point_at ps root) (map (foot ps root w) drops ++ foot ps root w tip ∷ []), length-append (map (foot ps root w) drops) (foot ps root w tip ∷ []), length-map drops (foot ps root w))

-- a short leg has a piece, and one more where there is a side
pub length-short_leg : (ps : List Point) (root : ℕ) (w : Way) (side : Option ℕ) (tip : ℕ) → int_eq (across_of ps root w tip) (pos 0) ≡ false → length (short_leg ps root w side tip) ≡ 1 + length (option_to_list side)
length-short_leg ps root w side tip bent = grind arith

pub length-pieces_of : (ps : List Point) (root : ℕ) (w : Way) (drops : List ℕ) (side : Option ℕ) (tip : ℕ) → length (pieces_of ps (Long root w drops side tip)) ≡ length drops + 1 + length (short_leg ps root w side tip) + length drops + length (option_to_list side)
length-pieces_of ps root w drops side tip =
    grind (
      arith,
      length-append ((long_leg ps root w drops tip) ++ (short_leg ps root w side tip) ++ (drop_pieces ps root w drops)) (side_piece ps root w side tip),
      length-append ((long_leg ps root w drops tip) ++ (short_leg ps root w side tip)) (drop_pieces ps root w drops),
      length-append (long_leg ps root w drops tip) (short_leg ps root w side tip),
      length-long_leg ps root w drops tip,
      length-map,
    )

-- ---- the parts of a long code

module _ (ps : List Point) (root : ℕ) (w : Way) (drops : List ℕ) (side : Option ℕ) (tip : ℕ) (n : ℕ) (x : Piece) where
  pub nth_of_short_leg : (k : ℕ) → n ≡ length drops + 1 + k → slice_get (short_leg ps root w side tip) k ≡ Some x → slice_get (pieces_of ps (Long root w drops side tip)) n ≡ Some x
  nth_of_short_leg k is at =
      let long = long_leg ps root w drops tip in
      let short = short_leg ps root w side tip in
      let hung = drop_pieces ps root w drops in
      let last = side_piece ps root w side tip in
      slice_get-append_left (long ++ short ++ hung) last n x (slice_get-append_left (long ++ short) hung n x
      (slice_get-append_right long short n k x (omega (arith, length-long_leg ps root w drops tip)) at))

  pub nth_of_drops : (k : ℕ) → n ≡ length drops + 1 + length (short_leg ps root w side tip) + k → k < length drops
      → x.from ≡ foot ps root w (get_or drops k 0) → x.to ≡ point_at ps (get_or drops k 0) → slice_get (pieces_of ps (Long root w drops side tip)) n ≡ Some x
  nth_of_drops k is inside from to =
      let long = long_leg ps root w drops tip in
      let short = short_leg ps root w side tip in
      let hung = drop_pieces ps root w drops in
      let last = side_piece ps root w side tip in
      let piece_to = λ (j : ℕ). piece_between (foot ps root w j) (point_at ps j) in
      let at = slice_get-map piece_to drops k ∙ ap (option_map piece_to) (slice_get-get_or drops k 0 inside) ∙ ap Some (grind arith) in
      slice_get-append_left (long ++ short ++ hung) last n x
      (slice_get-append_right (long ++ short) hung n k x (omega (arith, length-append long short, length-long_leg ps root w drops tip)) at)

-- the side's piece is the last
pub nth_of_side : (ps : List Point) (root : ℕ) (w : Way) (drops : List ℕ) (q : ℕ) (tip : ℕ) (n : ℕ) (x : Piece) → n ≡ length drops + 1 + length (short_leg ps root w (Some q) tip) + length drops
    → x.from ≡ side_foot ps root w tip q → x.to ≡ point_at ps q → slice_get (pieces_of ps (Long root w drops (Some q) tip)) n ≡ Some x
nth_of_side ps root w drops q tip n x is from to =
    let long = long_leg ps root w drops tip in
    let short = short_leg ps root w (Some q) tip in
    let hung = drop_pieces ps root w drops in
    slice_get-append_right (long ++ short ++ hung) (side_piece ps root w (Some q) tip) n 0 x
    (omega (arith, length-append (long ++ short) hung, length-append long short, length-long_leg ps root w drops tip, length-map drops (λ k. piece_between (foot ps root w k) (point_at ps k))))
    (ap Some (grind arith))
