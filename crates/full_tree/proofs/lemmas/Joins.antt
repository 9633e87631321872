-- The pieces of a code in form are straight lines of the grid that hang together and join its members.
use Rattle.std.proofs.Common.{ℕ, ◌≡◌, ◌<◌, Bool, false, pos, List, [], ◌∷◌, ◌++◌, length, get_or, map, refl, sym, ap, subst, ◌∙◌, inl, inr, arith}
use Rattle.std.specs.Prelude.{All, Contains, Option, None, Some, IfSome, option_to_list, if◌then◌else◌}
use Rattle.std.specs.Ordering.{int_eq}
use Rattle.std.proofs.lemmas.Int.{ints}
use Rattle.std.proofs.lemmas.Bool.{cases_Bool, false_from_ne_true}
use Rattle.std.proofs.lemmas.Bool.Decides.{Decides-int_eq}
use Rattle.std.proofs.lemmas.List.Elements.{All-nil, All-cons, All-head, All-tail, All-append, All-weaker, All-map, Contains-append_left, Contains-append_right, Contains-push}
use Rattle.lists.specs.ListLaws.{All-first, All-second}
use Rattle.points_in.specs.declared.point.Point.{Point}
use Rattle.hanan_grid.specs.Grid.{xs_of, ys_of}
use Rattle.hanan_grid.specs.Names.{IsCrossing}
use Rattle.full_tree.specs.declared.way.Way.{Way}
use Rattle.full_tree.specs.declared.straight.Piece.{Piece}
use Rattle.full_tree.specs.declared.code.TreeCode.{TreeCode}
use Rattle.full_tree.specs.declared.code.TreeCode.TheVariants.{Long, Cross}
use Rattle.full_tree.specs.Geometry.{point_at, meet}
use Rattle.full_tree.specs.Code.{named_places}
use Rattle.full_tree.specs.Form.{across_of, IsOnShortLeg, IsInForm}
use Rattle.full_tree.specs.Pieces.{piece_between, line_over, foot, side_foot, long_leg, short_leg, drop_pieces, side_piece, crossing_of, pieces_of}
use Rattle.full_tree.specs.Joined.{IsStraight, GrowsFrom, HangsTogether, ends_of, IsOnGrid, JoinsMembers}
use Rattle.full_tree.proofs.lemmas.Meets.{ahead, aside, point_seen-meet, point_seen-foot, straight_ahead, straight_across, same_seen, aside-across, IsCrossing-point_at, IsCrossing-meet}
use Rattle.hanan_grid.specs.ContainsLaws.{Contains-first}
use Rattle.full_tree.proofs.lemmas.Grown.{line_grows, hung_grow, GrowsFrom-append, tos_of_line, All-places, Contains-ends_to, Contains-line_to, hung_ends}

-- ---- the points of a long code

-- a foot is where the line across through its terminal meets the long leg
pub foot-meet : (ps : List Point) (root : ℕ) (w : Way) (k : ℕ) → foot ps root w k ≡ meet w (point_at ps k) (point_at ps root)
foot-meet ps root w k = point_seen-foot (point_at ps root) w (point_at ps k)

-- a side's foot is where the line ahead through it meets the short leg
pub side_foot-meet : (ps : List Point) (root : ℕ) (w : Way) (tip k : ℕ) → side_foot ps root w tip k ≡ meet w (point_at ps tip) (point_at ps k)
side_foot-meet ps root w tip k = point_seen-meet (point_at ps root) w (point_at ps tip) (point_at ps k)

pub aside-foot : (ps : List Point) (root : ℕ) (w : Way) (k : ℕ) → aside w (foot ps root w k) ≡ aside w (point_at ps root)
aside-foot ps root w k = ap (aside w) (foot-meet ps root w k) ∙ (grind arith)

pub ahead-foot : (ps : List Point) (root : ℕ) (w : Way) (k : ℕ) → ahead w (foot ps root w k) ≡ ahead w (point_at ps k)
ahead-foot ps root w k = ap (ahead w) (foot-meet ps root w k) ∙ (grind arith)

pub ahead-side_foot : (ps : List Point) (root : ℕ) (w : Way) (tip k : ℕ) → ahead w (side_foot ps root w tip k) ≡ ahead w (point_at ps tip)
ahead-side_foot ps root w tip k = ap (ahead w) (side_foot-meet ps root w tip k) ∙ (grind arith)

pub aside-side_foot : (ps : List Point) (root : ℕ) (w : Way) (tip k : ℕ) → aside w (side_foot ps root w tip k) ≡ aside w (point_at ps k)
aside-side_foot ps root w tip k = ap (aside w) (side_foot-meet ps root w tip k) ∙ (grind arith)

-- where the tip lies straight ahead, it is the corner
pub corner_is_tip : (ps : List Point) (root : ℕ) (w : Way) (tip : ℕ) → across_of ps root w tip ≡ pos 0 → foot ps root w tip ≡ point_at ps tip
corner_is_tip ps root w tip level = same_seen w (foot ps root w tip) (point_at ps tip) (ahead-foot ps root w tip)
    (aside-foot ps root w tip ∙ sym (aside-across (point_at ps root) w (point_at ps tip) level))

-- a tip with a side isn't straight ahead
pub leg_from_side : (ps : List Point) (root : ℕ) (w : Way) (tip q : ℕ) → IsOnShortLeg ps root w tip q → int_eq (across_of ps root w tip) (pos 0) ≡ false
leg_from_side ps root w tip q leg =
    grind (arith, false_from_ne_true, Decides-int_eq (across_of ps root w tip) (pos 0), ints)

-- ---- straight

-- a line over points of one line ahead is straight
straight_line : (w : Way) (p : Point) (qs : List Point) → All (λ q. aside w q ≡ aside w p) qs → All IsStraight (line_over p qs)
straight_line w p [] level = All-nil IsStraight
straight_line w p (q ∷ qs) level =
    let first = All-head (λ q. aside w q ≡ aside w p) q qs level in
    All-cons IsStraight (piece_between p q) (line_over q qs) (straight_ahead w p q (sym first))
    (straight_line w q qs (All-weaker (λ s. aside w s ≡ aside w p) (λ s. aside w s ≡ aside w q) (λ s same. same ∙ sym first) qs (All-tail (λ q. aside w q ≡ aside w p) q qs level)))

-- a line over points of one line across is straight
upright_line : (w : Way) (p : Point) (qs : List Point) → All (λ q. ahead w q ≡ ahead w p) qs → All IsStraight (line_over p qs)
upright_line w p [] plumb = All-nil IsStraight
upright_line w p (q ∷ qs) plumb =
    let first = All-head (λ q. ahead w q ≡ ahead w p) q qs plumb in
    All-cons IsStraight (piece_between p q) (line_over q qs) (straight_across w p q (sym first))
    (upright_line w q qs (All-weaker (λ s. ahead w s ≡ ahead w p) (λ s. ahead w s ≡ ahead w q) (λ s same. same ∙ sym first) qs (All-tail (λ q. ahead w q ≡ ahead w p) q qs plumb)))

-- the points of the long leg lie on one line ahead
feet_level : (ps : List Point) (root : ℕ) (w : Way) (drops : List ℕ) (tip : ℕ) → All (λ q. aside w q ≡ aside w (point_at ps root)) (map (foot ps root w) drops ++ foot ps root w tip ∷ [])
feet_level ps root w drops tip =
    let level = λ (q : Point). aside w q ≡ aside w (point_at ps root) in
    All-append level (map (foot ps root w) drops) (foot ps root w tip ∷ [])
    (All-map level (foot ps root w) drops (λ k d inside. aside-foot ps root w (get_or drops k d)))
    (All-cons level (foot ps root w tip) [] (aside-foot ps root w tip) (All-nil level))

-- the points of the short leg lie on one line across
leg_plumb : (ps : List Point) (root : ℕ) (w : Way) (side : Option ℕ) (tip : ℕ) → All (λ q. ahead w q ≡ ahead w (foot ps root w tip)) (map (side_foot ps root w tip) (option_to_list side) ++ point_at ps tip ∷ [])
leg_plumb ps root w side tip = search (ahead-foot, All-append, All-map, ahead-side_foot, All-cons, All-nil)

-- what holds of the pieces of a leg holds of the leg, also where there is none
All-leg : (P : Piece → Type 0) (b : Bool) (xs : List Piece) → All P xs → All P (if b then [] else xs)
All-leg P b xs all = grind arith

-- what holds of the four parts of a long code's pieces holds of all pieces
All-parts : (P : Piece → Type 0) (ps : List Point) (root : ℕ) (w : Way) (drops : List ℕ) (side : Option ℕ) (tip : ℕ)
    → All P (long_leg ps root w drops tip) → All P (short_leg ps root w side tip) → All P (drop_pieces ps root w drops) → All P (side_piece ps root w side tip)
    → All P (pieces_of ps (Long root w drops side tip))
All-parts P ps root w drops side tip a b c d =
    All-append P (long_leg ps root w drops tip ++ short_leg ps root w side tip ++ drop_pieces ps root w drops) (side_piece ps root w side tip)
    (All-append P (long_leg ps root w drops tip ++ short_leg ps root w side tip) (drop_pieces ps root w drops)
    (All-append P (long_leg ps root w drops tip) (short_leg ps root w side tip) a b) c) d

long_straight : (ps : List Point) (root : ℕ) (w : Way) (drops : List ℕ) (side : Option ℕ) (tip : ℕ) → All IsStraight (pieces_of ps (Long root w drops side tip))
long_straight ps root w drops side tip = All-parts IsStraight ps root w drops side tip
    (straight_line w (point_at ps root) (map (foot ps root w) drops ++ foot ps root w tip ∷ []) (feet_level ps root w drops tip))
    (All-leg IsStraight (int_eq (across_of ps root w tip) (pos 0)) (line_over (foot ps root w tip) (map (side_foot ps root w tip) (option_to_list side) ++ point_at ps tip ∷ []))
    (upright_line w (foot ps root w tip) (map (side_foot ps root w tip) (option_to_list side) ++ point_at ps tip ∷ []) (leg_plumb ps root w side tip)))
    (All-map IsStraight (λ k. piece_between (foot ps root w k) (point_at ps k)) drops
    (λ k d inside. let l = get_or drops k d in straight_across w (foot ps root w l) (point_at ps l) (ahead-foot ps root w l)))
    (All-map IsStraight (λ k. piece_between (side_foot ps root w tip k) (point_at ps k)) (option_to_list side)
    (λ k d inside. let l = get_or (option_to_list side) k d in straight_ahead w (side_foot ps root w tip l) (point_at ps l) (aside-side_foot ps root w tip l)))

-- ---- on the grid

abbrev IsOn : List Point → Point → Type 0
IsOn ps p = IsCrossing (xs_of ps) (ys_of ps) p

-- a line over crossings is on the grid
grid_line : (ps : List Point) (p : Point) (qs : List Point) → IsOn ps p → All (IsOn ps) qs → All (IsOnGrid ps) (line_over p qs)
grid_line ps p [] on all = All-nil (IsOnGrid ps)
grid_line ps p (q ∷ qs) on all =
    let first = All-head (IsOn ps) q qs all in
    All-cons (IsOnGrid ps) (piece_between p q) (line_over q qs) (record { from = on; to = first }) (grid_line ps q qs first (All-tail (IsOn ps) q qs all))

foot_on : (ps : List Point) (root : ℕ) (w : Way) (k : ℕ) → root < length ps → k < length ps → IsOn ps (foot ps root w k)
foot_on ps root w k r_in k_in = rw (foot-meet ps root w k) (IsCrossing-meet (xs_of ps) (ys_of ps) w (point_at ps k) (point_at ps root) (IsCrossing-point_at ps k k_in) (IsCrossing-point_at ps root r_in))

side_foot_on : (ps : List Point) (root : ℕ) (w : Way) (tip k : ℕ) → tip < length ps → k < length ps → IsOn ps (side_foot ps root w tip k)
side_foot_on ps root w tip k t_in k_in = rw (side_foot-meet ps root w tip k) (IsCrossing-meet (xs_of ps) (ys_of ps) w (point_at ps tip) (point_at ps k) (IsCrossing-point_at ps tip t_in) (IsCrossing-point_at ps k k_in))

long_on_grid : (ps : List Point) (root : ℕ) (w : Way) (drops : List ℕ) (side : Option ℕ) (tip : ℕ) → root < length ps → tip < length ps → All (λ k. k < length ps) drops → All (λ k. k < length ps) (option_to_list side) → All (IsOnGrid ps) (pieces_of ps (Long root w drops side tip))
long_on_grid ps root w drops side tip r_in t_in drops_in side_in = All-parts (IsOnGrid ps) ps root w drops side tip
    (grid_line ps (point_at ps root) (map (foot ps root w) drops ++ foot ps root w tip ∷ []) (IsCrossing-point_at ps root r_in)
    (All-append (IsOn ps) (map (foot ps root w) drops) (foot ps root w tip ∷ [])
    (All-map (IsOn ps) (foot ps root w) drops (All-weaker (λ k. k < length ps) (λ k. IsOn ps (foot ps root w k)) (λ k k_in. foot_on ps root w k r_in k_in) drops drops_in))
    (All-cons (IsOn ps) (foot ps root w tip) [] (foot_on ps root w tip r_in t_in) (All-nil (IsOn ps)))))
    (All-leg (IsOnGrid ps) (int_eq (across_of ps root w tip) (pos 0)) (line_over (foot ps root w tip) (map (side_foot ps root w tip) (option_to_list side) ++ point_at ps tip ∷ []))
    (grid_line ps (foot ps root w tip) (map (side_foot ps root w tip) (option_to_list side) ++ point_at ps tip ∷ []) (foot_on ps root w tip r_in t_in)
    (All-append (IsOn ps) (map (side_foot ps root w tip) (option_to_list side)) (point_at ps tip ∷ [])
    (All-map (IsOn ps) (side_foot ps root w tip) (option_to_list side) (All-weaker (λ k. k < length ps) (λ k. IsOn ps (side_foot ps root w tip k)) (λ k k_in. side_foot_on ps root w tip k t_in k_in) (option_to_list side) side_in))
    (All-cons (IsOn ps) (point_at ps tip) [] (IsCrossing-point_at ps tip t_in) (All-nil (IsOn ps))))))
    (All-map (IsOnGrid ps) (λ k. piece_between (foot ps root w k) (point_at ps k)) drops
    (All-weaker (λ k. k < length ps) (λ k. IsOnGrid ps (piece_between (foot ps root w k) (point_at ps k))) (λ k k_in. record { from = foot_on ps root w k r_in k_in; to = IsCrossing-point_at ps k k_in }) drops drops_in))
    (All-map (IsOnGrid ps) (λ k. piece_between (side_foot ps root w tip k) (point_at ps k)) (option_to_list side)
    (All-weaker (λ k. k < length ps) (λ k. IsOnGrid ps (piece_between (side_foot ps root w tip k) (point_at ps k))) (λ k k_in. record { from = side_foot_on ps root w tip k t_in k_in; to = IsCrossing-point_at ps k k_in }) (option_to_list side) side_in))

-- ---- together

abbrev leg_line : List Point → ℕ → Way → Option ℕ → ℕ → List Piece
leg_line ps root w side tip = line_over (foot ps root w tip) (map (side_foot ps root w tip) (option_to_list side) ++ point_at ps tip ∷ [])

abbrev leg_points : List Point → ℕ → Way → List ℕ → ℕ → List Point
leg_points ps root w drops tip = map (foot ps root w) drops ++ foot ps root w tip ∷ []

-- the short leg grows from the corner, also where there is none
leg_grows : (reached : List Point) (p : Point) (qs : List Point) (b : Bool) → Contains reached p → GrowsFrom reached (if b then [] else line_over p qs)
leg_grows reached p qs b from = grind (arith, line_grows)

-- what holds of all ends of the long leg's pieces holds of the feet and of the corner
feet_hold : (P : Point → Type 0) (ps : List Point) (root : ℕ) (w : Way) (drops : List ℕ) (tip : ℕ) → All (λ x. P x.to) (long_leg ps root w drops tip) → All (λ k. P (foot ps root w k)) drops
feet_hold P ps root w drops tip all =
    All-places P (foot ps root w) drops (All-first P (map (foot ps root w) drops) (foot ps root w tip ∷ []) (tos_of_line P (point_at ps root) (leg_points ps root w drops tip) all))

corner_holds : (P : Point → Type 0) (ps : List Point) (root : ℕ) (w : Way) (drops : List ℕ) (tip : ℕ) → All (λ x. P x.to) (long_leg ps root w drops tip) → P (foot ps root w tip)
corner_holds P ps root w drops tip all =
    All-head P (foot ps root w tip) [] (All-second P (map (foot ps root w) drops) (foot ps root w tip ∷ []) (tos_of_line P (point_at ps root) (leg_points ps root w drops tip) all))

-- and of the short leg's, of a side's foot
side_foot_holds : (P : Point → Type 0) (ps : List Point) (root : ℕ) (w : Way) (q tip : ℕ) → IsOnShortLeg ps root w tip q → All (λ x. P x.to) (short_leg ps root w (Some q) tip) → P (side_foot ps root w tip q)
side_foot_holds P ps root w q tip leg all =
    let line = subst (λ b. All (λ (x : Piece). P x.to) (if b then [] else leg_line ps root w (Some q) tip)) (leg_from_side ps root w tip q leg) all in
    All-head (λ (x : Piece). P x.to) (piece_between (foot ps root w tip) (side_foot ps root w tip q)) (line_over (side_foot ps root w tip q) (point_at ps tip ∷ [])) line

-- the side's piece grows from its foot, where there is a side
side_grows : (more : List Point) (ps : List Point) (root : ℕ) (w : Way) (drops : List ℕ) (side : Option ℕ) (tip : ℕ) → IfSome side (IsOnShortLeg ps root w tip)
    → All (λ x. Contains more x.to) (short_leg ps root w side tip) → GrowsFrom more (side_piece ps root w side tip)
side_grows more ps root w drops None tip hangs tos = tt
side_grows more ps root w drops (Some q) tip hangs tos = (side_foot_holds (Contains more) ps root w q tip hangs tos, tt)

long_grows : (ps : List Point) (root : ℕ) (w : Way) (drops : List ℕ) (side : Option ℕ) (tip : ℕ) → IfSome side (IsOnShortLeg ps root w tip) → GrowsFrom (point_at ps root ∷ []) (pieces_of ps (Long root w drops side tip))
long_grows ps root w drops side tip hangs =
    let start = point_at ps root ∷ [] in
    let long = long_leg ps root w drops tip in
    let short = short_leg ps root w side tip in
    GrowsFrom-append start (long ++ short ++ drop_pieces ps root w drops) (side_piece ps root w side tip)
    (GrowsFrom-append start (long ++ short) (drop_pieces ps root w drops)
    (GrowsFrom-append start long short
    (line_grows start (point_at ps root) (leg_points ps root w drops tip) (Contains-first (point_at ps root) []))
    (λ more into tos. leg_grows more (foot ps root w tip) (map (side_foot ps root w tip) (option_to_list side) ++ point_at ps tip ∷ []) (int_eq (across_of ps root w tip) (pos 0))
    (corner_holds (Contains more) ps root w drops tip tos)))
    (λ more into tos. hung_grow (foot ps root w) (point_at ps) more drops (feet_hold (Contains more) ps root w drops tip (All-first (λ (x : Piece). Contains more x.to) long short tos))))
    (λ more into tos. side_grows more ps root w drops side tip hangs
    (All-second (λ (x : Piece). Contains more x.to) long short (All-first (λ (x : Piece). Contains more x.to) (long ++ short) (drop_pieces ps root w drops) tos)))

long_together : (ps : List Point) (root : ℕ) (w : Way) (drops : List ℕ) (side : Option ℕ) (tip : ℕ) → IfSome side (IsOnShortLeg ps root w tip) → HangsTogether (pieces_of ps (Long root w drops side tip))
long_together ps root w [] side tip hangs = (long_grows ps root w [] side tip hangs).1
long_together ps root w (d ∷ ds) side tip hangs = (long_grows ps root w (d ∷ ds) side tip hangs).1

-- ---- members

-- the root is where the first piece begins
root_end : (ps : List Point) (root : ℕ) (w : Way) (drops : List ℕ) (side : Option ℕ) (tip : ℕ) → Contains (ends_of (pieces_of ps (Long root w drops side tip))) (point_at ps root)
root_end ps root w [] side tip = (0, omega arith, refl)
root_end ps root w (d ∷ ds) side tip = (0, omega arith, refl)

-- the tip is where the short leg ends, or the long leg where there is none
tip_end : (ps : List Point) (root : ℕ) (w : Way) (drops : List ℕ) (side : Option ℕ) (tip : ℕ) → Contains (ends_of (pieces_of ps (Long root w drops side tip))) (point_at ps tip)
tip_end ps root w drops side tip =
    let long = long_leg ps root w drops tip in
    let short = short_leg ps root w side tip in
    let hung = drop_pieces ps root w drops in
    let last = side_piece ps root w side tip in
    let pieces = pieces_of ps (Long root w drops side tip) in
    elim (cases_Bool (int_eq (across_of ps root w tip) (pos 0))) [
      | inl level ↦
          let corner = corner_is_tip ps root w tip ((Decides-int_eq (across_of ps root w tip) (pos 0)).0 level) in
          let found = Contains-line_to (point_at ps root) (leg_points ps root w drops tip) (foot ps root w tip) (Contains-push (map (foot ps root w) drops) (foot ps root w tip)) in
          let held : Contains pieces found.0 =
          Contains-append_left (long ++ short ++ hung) last found.0 (Contains-append_left (long ++ short) hung found.0 (Contains-append_left long short found.0 found.1)) in
          subst (λ p. Contains (ends_of pieces) p) (found.2 ∙ corner) (Contains-ends_to pieces found.0 held)
      | inr bent ↦
          let found = Contains-line_to (foot ps root w tip) (map (side_foot ps root w tip) (option_to_list side) ++ point_at ps tip ∷ []) (point_at ps tip) (Contains-push (map (side_foot ps root w tip) (option_to_list side)) (point_at ps tip)) in
          let in_short : Contains short found.0 = subst (λ b. Contains (if b then [] else leg_line ps root w side tip) found.0) (sym bent) found.1 in
          let held : Contains pieces found.0 =
          Contains-append_left (long ++ short ++ hung) last found.0 (Contains-append_left (long ++ short) hung found.0 (Contains-append_right long short found.0 in_short)) in
          subst (λ p. Contains (ends_of pieces) p) found.2 (Contains-ends_to pieces found.0 held)
    ]

long_members : (ps : List Point) (root : ℕ) (w : Way) (drops : List ℕ) (side : Option ℕ) (tip : ℕ) → All (λ k. Contains (ends_of (pieces_of ps (Long root w drops side tip))) (point_at ps k)) (named_places (Long root w drops side tip))
long_members ps root w drops side tip =
    let long = long_leg ps root w drops tip in
    let short = short_leg ps root w side tip in
    let hung = drop_pieces ps root w drops in
    let last = side_piece ps root w side tip in
    let pieces = pieces_of ps (Long root w drops side tip) in
    let ends = λ (k : ℕ). Contains (ends_of pieces) (point_at ps k) in
    All-append ends (root ∷ drops ++ option_to_list side) (tip ∷ [])
    (All-append ends (root ∷ drops) (option_to_list side)
    (All-cons ends root drops (root_end ps root w drops side tip)
    (hung_ends (foot ps root w) (point_at ps) drops pieces (λ x held. Contains-append_left (long ++ short ++ hung) last x (Contains-append_right (long ++ short) hung x held))))
    (hung_ends (side_foot ps root w tip) (point_at ps) (option_to_list side) pieces (λ x held. Contains-append_right (long ++ short ++ hung) last x held)))
    (All-cons ends tip [] (tip_end ps root w drops side tip) (All-nil ends))

-- what holds of all places that a long code names holds of its root, its drops, its side and its tip
pub long_places : (P : ℕ → Type 0) (root : ℕ) (w : Way) (drops : List ℕ) (side : Option ℕ) (tip : ℕ) → All P (named_places (Long root w drops side tip)) → P root × All P drops × All P (option_to_list side) × P tip
long_places P root w drops side tip all =
    grind (
      arith,
      All-head P root drops (All-first P (root ∷ drops) (option_to_list side) (All-first P (root ∷ drops ++ option_to_list side) (tip ∷ []) all)),
      All-tail P root drops (All-first P (root ∷ drops) (option_to_list side) (All-first P (root ∷ drops ++ option_to_list side) (tip ∷ []) all)),
      All-second P (root ∷ drops) (option_to_list side) (All-first P (root ∷ drops ++ option_to_list side) (tip ∷ []) all),
      All-head P tip,
      All-second P (root ∷ drops ++ option_to_list side) (tip ∷ []) all,
    )

-- ---- crosses

cross_on_grid : (ps : List Point) (west south east north : ℕ) → All (λ k. k < length ps) (named_places (Cross west south east north)) → All (IsOnGrid ps) (pieces_of ps (Cross west south east north))
cross_on_grid ps west south east north inside =
    let places = west ∷ south ∷ east ∷ north ∷ [] in
    let w_in : west < length ps = inside 0 0 (omega arith) in
    let s_in : south < length ps = inside 1 0 (omega arith) in
    let middle : IsOn ps (crossing_of ps west south) = record {
      x = (IsCrossing-point_at ps south s_in).x;
      y = (IsCrossing-point_at ps west w_in).y;
    } in
    All-map (IsOnGrid ps) (λ k. piece_between (crossing_of ps west south) (point_at ps k)) places
    (All-weaker (λ k. k < length ps) (λ k. IsOnGrid ps (piece_between (crossing_of ps west south) (point_at ps k))) (λ k k_in. record { from = middle; to = IsCrossing-point_at ps k k_in }) places inside)

cross_together : (ps : List Point) (west south east north : ℕ) → HangsTogether (pieces_of ps (Cross west south east north))
cross_together ps west south east north = grind arith

-- ---- all codes

-- the pieces of a code in form join its members
pub joins_members : (ps : List Point) (code : TreeCode) → IsInForm ps code → JoinsMembers ps code
joins_members ps (Long root w drops side tip) form =
    let places = long_places (λ k. k < length ps) root w drops side tip form.terminals in
    record {
      straight = long_straight ps root w drops side tip;
      on_grid = long_on_grid ps root w drops side tip places.0 places.3 places.1 places.2;
      together = long_together ps root w drops side tip form.shape.hangs;
      members = long_members ps root w drops side tip;
    }
joins_members ps (Cross west south east north) form = record {
  straight = grind arith;
  on_grid = cross_on_grid ps west south east north form.terminals;
  together = cross_together ps west south east north;
  members = hung_ends (λ k. crossing_of ps west south) (point_at ps) (west ∷ south ∷ east ∷ north ∷ []) (pieces_of ps (Cross west south east north)) (λ x held. held);
}
