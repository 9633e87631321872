-- The pieces of a code in form are together no longer than the grid's total.
use Rattle.std.proofs.Common.{ℕ, ◌+◌, ◌*◌, ◌≡◌, ◌≢◌, ◌<◌, ◌≤◌, Bool, ℤ, pos, ◌+ℤ◌, ◌-ℤ◌, ◌<ℤ◌, List, [], ◌∷◌, ◌++◌, length, take, map, refl, sym, subst, ◌∙◌, ◌⊎◌, inl, inr, arith, unsigned_abs, length-append}
use Rattle.std.specs.Prelude.{All, AllPairs, Contains, Option, None, Some, IfSome, option_to_list, if◌then◌else◌, sum_by, slice_get}
use Rattle.std.proofs.lemmas.List.{length-map, take_more}
use Rattle.std.proofs.lemmas.Int.{ints}
use Rattle.std.proofs.lemmas.Nat.{mul-le}
use Rattle.std.proofs.lemmas.Bool.Decides.{Decides-int_eq}
use Rattle.std.proofs.lemmas.Cmp.{int_eq_equiv}
use Rattle.std.proofs.lemmas.Map.Made.{length-le_from_is_member, is_member-Decides, IsDistinct-from_AllPairs}
use Rattle.std.proofs.lemmas.List.Elements.{All-nil, All-cons, All-head, All-tail, All-append, All-weaker, All-map, All-contains}
use Rattle.std.proofs.lemmas.List.Kept.{AllPairs-cons}
use Rattle.std.proofs.lemmas.List.Sums.{sum_by-cons, sum_by-append, sum_by-le, sum_by_more_le}
use Rattle.std.proofs.lemmas.Option.{slice_get_within, get_or_from_slice_get}
use Rattle.full_tree.specs.GeometryLaws.{along-itself, across-itself}
use Rattle.points_in.specs.declared.point.Point.{Point}
use Rattle.net_graph.specs.Graph.{total_of}
use Rattle.hanan_grid.specs.Distance.{distance_between}
use Rattle.hanan_grid.specs.Grid.{xs_of, ys_of, hanan_grid_of}
use Rattle.hanan_grid.specs.GridLaws.{IsRising-xs_of, IsRising-ys_of}
use Rattle.hanan_grid.specs.LinesLaws.{place_of-below}
use Rattle.hanan_grid.specs.TotalLaws.{width_of, apart_le, total_of-hanan_grid_of}
use Rattle.full_tree.specs.declared.way.Way.{Way}
use Rattle.full_tree.specs.declared.straight.Piece.{Piece}
use Rattle.full_tree.specs.declared.code.TreeCode.{TreeCode}
use Rattle.full_tree.specs.declared.code.TreeCode.TheVariants.{Long, Cross}
use Rattle.full_tree.specs.Geometry.{point_at, along, across, RisesFrom, IsBetweenZeroAnd}
use Rattle.full_tree.specs.Form.{along_of, across_of, IsOnShortLeg, IsCrossShape, IsInForm}
use Rattle.full_tree.specs.Pieces.{piece_between, line_over, foot, side_foot, long_leg, short_leg, drop_pieces, side_piece, crossing_of, length_of_piece, code_length}
use Rattle.full_tree.proofs.lemmas.Meets.{ahead, aside, distance_ahead, distance_across, along-same, across-same, lines_ahead, lines_aside, IsRising-lines_aside, Contains-lines_ahead, Contains-lines_aside, IsCrossing-point_at, total_seen}
use Rattle.full_tree.proofs.lemmas.Joins.{aside-foot, ahead-foot, ahead-side_foot, aside-side_foot, long_places}

-- ---- counting lines

-- distinct values that are all lines are at most as many as the lines
pigeons : (zs lines : List ℤ) → AllPairs (λ y z. y ≢ z) zs → ((z : ℤ) → Contains zs z → Contains lines z) → length zs ≤ length lines
pigeons zs lines distinct into =
    length-le_from_is_member int_eq_equiv zs lines (IsDistinct-from_AllPairs Decides-int_eq zs distinct)
    (λ q held. (is_member-Decides Decides-int_eq lines q).1 (into q ((is_member-Decides Decides-int_eq zs q).0 held)))

-- what rises from a value is above it
above_all : (z : ℤ) (ys : List ℤ) → RisesFrom z ys → All (λ y. z <ℤ y) ys
above_all z [] rises = All-nil (λ y. z <ℤ y)
above_all z (y ∷ ys) rises = grind (arith, above_all y ys rises.1)

-- terminals that lie further and further ahead lie on distinct lines across
rising_apart : (ps : List Point) (root : ℕ) (w : Way) (z : ℤ) (ks : List ℕ) → RisesFrom z (map (along_of ps root w) ks) → AllPairs (λ x y. x ≢ y) (map (λ k. ahead w (point_at ps k)) ks)
rising_apart ps root w z [] rises = λ i j d before inside. absurd (omega arith)
rising_apart ps root w z (k ∷ ks) rises =
    let lower = λ (l : ℕ). along_of ps root w k <ℤ along_of ps root w l in
    let apart = λ (l : ℕ). ahead w (point_at ps k) ≢ ahead w (point_at ps l) in
    let later : All lower ks = places_from_map (λ y. along_of ps root w k <ℤ y) (along_of ps root w) ks (above_all (along_of ps root w k) (map (along_of ps root w) ks) rises.1) in
    AllPairs-cons (λ x y. x ≢ y) (ahead w (point_at ps k)) (map (λ k. ahead w (point_at ps k)) ks)
    (All-map (λ x. ahead w (point_at ps k) ≢ x) (λ l. ahead w (point_at ps l)) ks
    (All-weaker lower apart (λ l below same. let equal = along-same (point_at ps root) w (point_at ps k) (point_at ps l) same in omega (arith, ints)) ks later))
    (rising_apart ps root w (along_of ps root w k) ks rises.1)
  where
    places_from_map : (P : ℤ → Type 0) (f : ℕ → ℤ) (ls : List ℕ) → All P (map f ls) → All (λ l. P (f l)) ls
    places_from_map P f [] all = All-nil (λ l. P (f l))
    places_from_map P f (l ∷ ls) all = All-cons (λ m. P (f m)) l ls (All-head P (f l) (map f ls) all) (places_from_map P f ls (All-tail P (f l) (map f ls) all))

-- the terminals' lines across are lines
lines_held : (ps : List Point) (w : Way) (ks : List ℕ) → All (λ k. k < length ps) ks → All (λ z. Contains (lines_ahead w ps) z) (map (λ k. ahead w (point_at ps k)) ks)
lines_held ps w ks inside =
    All-map (λ z. Contains (lines_ahead w ps) z) (λ k. ahead w (point_at ps k)) ks
    (All-weaker (λ k. k < length ps) (λ k. Contains (lines_ahead w ps) (ahead w (point_at ps k))) (λ k k_in. Contains-lines_ahead w ps k k_in) ks inside)

-- there are as many lines across as drops, and one more
columns_enough : (ps : List Point) (root : ℕ) (w : Way) (drops : List ℕ) (tip : ℕ) → RisesFrom (pos 0) (map (along_of ps root w) (drops ++ tip ∷ [])) → All (λ k. k < length ps) drops → tip < length ps → length drops + 1 ≤ length (lines_ahead w ps)
columns_enough ps root w drops tip rises drops_in tip_in =
    let ks = drops ++ tip ∷ [] in
    let inside = All-append (λ k. k < length ps) drops (tip ∷ []) drops_in (All-cons (λ k. k < length ps) tip [] tip_in (All-nil (λ k. k < length ps))) in
    let zs = map (λ k. ahead w (point_at ps k)) ks in
    let few = pigeons zs (lines_ahead w ps) (rising_apart ps root w (pos 0) ks rises) (λ z held. All-contains (λ y. Contains (lines_ahead w ps) y) zs z (lines_held ps w ks inside) held) in
    omega (arith, length-map ks (λ k. ahead w (point_at ps k)), length-append drops (tip ∷ []))

-- a side lies on another line ahead than the root
rows_enough : (ps : List Point) (root : ℕ) (w : Way) (tip q : ℕ) → IsOnShortLeg ps root w tip q → root < length ps → q < length ps → 2 ≤ length (lines_aside w ps)
rows_enough ps root w tip q leg root_in q_in =
    let a = aside w (point_at ps root) in
    let b = aside w (point_at ps q) in
    let apart : a ≢ b = λ same. off_zero (across_of ps root w tip) (across_of ps root w q) leg.between
    (sym (across-same (point_at ps root) w (point_at ps root) (point_at ps q) same) ∙ across-itself (point_at ps root) w) in
    pigeons (a ∷ b ∷ []) (lines_aside w ps)
    (AllPairs-cons (λ x y. x ≢ y) a (b ∷ []) (All-cons (λ y. a ≢ y) b [] apart (All-nil (λ y. a ≢ y))) (λ i j d before inside. absurd (omega arith)))
    (λ z held. All-contains (λ y. Contains (lines_aside w ps) y) (a ∷ b ∷ []) z
    (All-cons (λ y. Contains (lines_aside w ps) y) a (b ∷ []) (Contains-lines_aside w ps root root_in)
    (All-cons (λ y. Contains (lines_aside w ps) y) b [] (Contains-lines_aside w ps q q_in) (All-nil (λ y. Contains (lines_aside w ps) y)))) held)
  where
    off_zero : (d c : ℤ) → IsBetweenZeroAnd d c → c ≡ pos 0 → ⊥
    off_zero d c (inl (h, h')) same = omega (arith, ints)
    off_zero d c (inr (h, h')) same = omega (arith, ints)

-- ---- one piece

-- a piece ahead is at most as long as the lines across lie apart
ahead_le : (ps : List Point) (w : Way) (p q : Point) → aside w p ≡ aside w q → Contains (lines_ahead w ps) (ahead w p) → Contains (lines_ahead w ps) (ahead w q) → distance_between p q ≤ width_of (lines_ahead w ps)
ahead_le ps w p q level held held' =
    grind (arith, apart_le (lines_ahead w ps) (ahead w p) (ahead w q) held held' (grind (arith, IsRising-xs_of, IsRising-ys_of)), ints)

-- a drop, from its foot
drop_le : (ps : List Point) (root : ℕ) (w : Way) (k : ℕ) → root < length ps → k < length ps → distance_between (foot ps root w k) (point_at ps k) ≤ width_of (lines_aside w ps)
drop_le ps root w k root_in k_in = grind (arith, apart_le (lines_aside w ps) (aside w (foot ps root w k)) (aside w (point_at ps k)) (subst (λ z. Contains (lines_aside w ps) z) (sym (aside-foot ps root w k)) (Contains-lines_aside w ps root root_in)) (Contains-lines_aside w ps k k_in) (IsRising-lines_aside w ps), ints)

-- the whole long leg
reach_le : (ps : List Point) (root : ℕ) (w : Way) (tip : ℕ) → root < length ps → tip < length ps → distance_between (point_at ps root) (foot ps root w tip) ≤ width_of (lines_ahead w ps)
reach_le ps root w tip root_in tip_in = ahead_le ps w (point_at ps root) (foot ps root w tip) (sym (aside-foot ps root w tip))
    (Contains-lines_ahead w ps root root_in) (subst (λ z. Contains (lines_ahead w ps) z) (sym (ahead-foot ps root w tip)) (Contains-lines_ahead w ps tip tip_in))

-- a side, from its foot
hang_le : (ps : List Point) (root : ℕ) (w : Way) (tip q : ℕ) → tip < length ps → q < length ps → distance_between (side_foot ps root w tip q) (point_at ps q) ≤ width_of (lines_ahead w ps)
hang_le ps root w tip q tip_in q_in = ahead_le ps w (side_foot ps root w tip q) (point_at ps q) (aside-side_foot ps root w tip q)
    (subst (λ z. Contains (lines_ahead w ps) z) (sym (ahead-side_foot ps root w tip q)) (Contains-lines_ahead w ps tip tip_in)) (Contains-lines_ahead w ps q q_in)

-- ---- sums

abbrev sum_of : List Piece → ℕ
sum_of pieces = sum_by length_of_piece pieces

-- the pieces of a line that goes ahead reach as far as it goes
leg_sum : (ps : List Point) (root : ℕ) (w : Way) (p : Point) (drops : List ℕ) (tip : ℕ) → aside w p ≡ aside w (point_at ps root) → RisesFrom (along (point_at ps root) w p) (map (along_of ps root w) (drops ++ tip ∷ []))
    → along (point_at ps root) w p +ℤ pos (sum_of (line_over p (map (foot ps root w) drops ++ foot ps root w tip ∷ []))) ≡ along_of ps root w tip
leg_sum ps root w p [] tip level rises =
    let r = point_at ps root in
    let corner = foot ps root w tip in
    let there = along-same r w corner (point_at ps tip) (ahead-foot ps root w tip) in
    let lower = rises.0 in
    let one = sum_by-cons length_of_piece (piece_between p corner) [] in
    let reach = distance_ahead r w p corner (level ∙ sym (aside-foot ps root w tip)) (omega (arith, ints)) in
    omega (arith, ints)
leg_sum ps root w p (d ∷ ds) tip level rises =
    let r = point_at ps root in
    let next = foot ps root w d in
    let there = along-same r w next (point_at ps d) (ahead-foot ps root w d) in
    let lower = rises.0 in
    let rest = line_over next (map (foot ps root w) ds ++ foot ps root w tip ∷ []) in
    let one = sum_by-cons length_of_piece (piece_between p next) rest in
    let reach = distance_ahead r w p next (level ∙ sym (aside-foot ps root w d)) (omega (arith, ints)) in
    let more = leg_sum ps root w next ds tip (aside-foot ps root w d) (subst (λ z. RisesFrom z (map (along_of ps root w) (ds ++ tip ∷ []))) (sym there) rises.1) in
    omega (arith, ints)

-- so the long leg is as long as a single piece would be
long_sum : (ps : List Point) (root : ℕ) (w : Way) (drops : List ℕ) (tip : ℕ) → RisesFrom (pos 0) (map (along_of ps root w) (drops ++ tip ∷ [])) → root < length ps → tip < length ps → sum_of (long_leg ps root w drops tip) ≤ width_of (lines_ahead w ps)
long_sum ps root w drops tip rises root_in tip_in =
    let r = point_at ps root in
    let corner = foot ps root w tip in
    let zero_ahead = along-itself r w in
    let whole = leg_sum ps root w r drops tip refl (subst (λ z. RisesFrom z (map (along_of ps root w) (drops ++ tip ∷ []))) (sym zero_ahead) rises) in
    let there = along-same r w corner (point_at ps tip) (ahead-foot ps root w tip) in
    let reach = distance_ahead r w r corner (sym (aside-foot ps root w tip)) (omega (arith, ints)) in
    let far = reach_le ps root w tip root_in tip_in in
    omega (arith, ints)

-- two pieces of a line to d that is cut between are as long as one
cut_between : (c d : ℤ) → IsBetweenZeroAnd d c → unsigned_abs (pos 0 -ℤ c) + unsigned_abs (c -ℤ d) ≡ unsigned_abs (pos 0 -ℤ d)
cut_between c d (inl (h, h')) = omega (arith, ints)
cut_between c d (inr (h, h')) = omega (arith, ints)

-- the corner lies on the long leg
across-corner : (ps : List Point) (root : ℕ) (w : Way) (tip : ℕ) → across (point_at ps root) w (foot ps root w tip) ≡ pos 0
across-corner ps root w tip = across-same (point_at ps root) w (foot ps root w tip) (point_at ps root) (aside-foot ps root w tip) ∙ across-itself (point_at ps root) w

-- the short leg is no longer than the way from the corner to the tip
leg_line_sum : (ps : List Point) (root : ℕ) (w : Way) (side : Option ℕ) (tip : ℕ) → IfSome side (IsOnShortLeg ps root w tip)
    → sum_of (line_over (foot ps root w tip) (map (side_foot ps root w tip) (option_to_list side) ++ point_at ps tip ∷ [])) ≡ distance_between (foot ps root w tip) (point_at ps tip)
leg_line_sum ps root w None tip hangs = sum_by-cons length_of_piece (piece_between (foot ps root w tip) (point_at ps tip)) [] ∙ omega arith
leg_line_sum ps root w (Some q) tip hangs =
    grind (
      arith,
      across-corner ps root w tip,
      across-same (point_at ps root) w (side_foot ps root w tip q) (point_at ps q) (aside-side_foot ps root w tip q),
      distance_across (point_at ps root) w (foot ps root w tip) (side_foot ps root w tip q) ((ahead-foot ps root w tip) ∙ sym (ahead-side_foot ps root w tip q)),
      distance_across (point_at ps root) w (side_foot ps root w tip q) (point_at ps tip) (ahead-side_foot ps root w tip q),
      distance_across (point_at ps root) w (foot ps root w tip) (point_at ps tip) (ahead-foot ps root w tip),
      cut_between (across_of ps root w q) (across_of ps root w tip) hangs.between,
      sum_by-cons length_of_piece (piece_between (foot ps root w tip) (side_foot ps root w tip q)) (piece_between (side_foot ps root w tip q) (point_at ps tip) ∷ []),
      sum_by-cons length_of_piece (piece_between (side_foot ps root w tip q) (point_at ps tip)),
    )

-- a leg that may be missing is no longer than the leg
leg_or_none : (b : Bool) (xs : List Piece) → sum_of (if b then [] else xs) ≤ sum_of xs
leg_or_none b xs = grind arith

drops_sum : (ps : List Point) (root : ℕ) (w : Way) (drops : List ℕ) → root < length ps → All (λ k. k < length ps) drops → sum_of (drop_pieces ps root w drops) ≤ length drops * width_of (lines_aside w ps)
drops_sum ps root w drops root_in drops_in =
    let to = λ (k : ℕ). piece_between (foot ps root w k) (point_at ps k) in
    let each = All-map (λ x. length_of_piece x ≤ width_of (lines_aside w ps)) to drops
    (All-weaker (λ k. k < length ps) (λ k. length_of_piece (to k) ≤ width_of (lines_aside w ps)) (λ k k_in. drop_le ps root w k root_in k_in) drops drops_in) in
    let bound = sum_by-le length_of_piece (width_of (lines_aside w ps)) (map to drops) each in
    rw (length-map drops to) at bound

-- all in all: legs of one row and one column, drops of a column each, and a side's row
all_fit : (wide high rows columns m : ℕ) (long short drops side : ℕ) → 1 ≤ rows → m + 1 ≤ columns → long ≤ wide → short ≤ high → drops ≤ m * high → (side ≡ 0) ⊎ ((side ≤ wide) × (2 ≤ rows)) → long + short + drops + side ≤ rows * wide + columns * high
all_fit wide high rows columns m long short drops side some enough a b c (inl none) =
    omega (arith, mul-le 1 wide rows wide some (omega arith), mul-le (m + 1) high columns high enough (omega arith))
all_fit wide high rows columns m long short drops side some enough a b c (inr (d, two)) =
    omega (arith, mul-le 2 wide rows wide two (omega arith), mul-le (m + 1) high columns high enough (omega arith))

-- a side's piece, where there is one
side_sum : (ps : List Point) (root : ℕ) (w : Way) (side : Option ℕ) (tip : ℕ) → IfSome side (IsOnShortLeg ps root w tip) → root < length ps → tip < length ps → All (λ k. k < length ps) (option_to_list side)
    → (sum_of (side_piece ps root w side tip) ≡ 0) ⊎ ((sum_of (side_piece ps root w side tip) ≤ width_of (lines_ahead w ps)) × (2 ≤ length (lines_aside w ps)))
side_sum ps root w side tip hangs root_in tip_in side_in = grind (arith, sum_by-cons, hang_le, rows_enough)

-- there is a line ahead through the root
row_enough : (ps : List Point) (root : ℕ) (w : Way) → root < length ps → 1 ≤ length (lines_aside w ps)
row_enough ps root w root_in = let row = place_of-below (aside w (point_at ps root)) (lines_aside w ps) (Contains-lines_aside w ps root root_in) (IsRising-lines_aside w ps) in omega arith

long_fits : (ps : List Point) (root : ℕ) (w : Way) (drops : List ℕ) (side : Option ℕ) (tip : ℕ) → IsInForm ps (Long root w drops side tip) → code_length ps (Long root w drops side tip) ≤ total_of (hanan_grid_of ps)
long_fits ps root w drops side tip form =
    let places = long_places (λ k. k < length ps) root w drops side tip form.terminals in
    let long = long_leg ps root w drops tip in
    let short = short_leg ps root w side tip in
    let hung = drop_pieces ps root w drops in
    let last = side_piece ps root w side tip in
    let bound = all_fit (width_of (lines_ahead w ps)) (width_of (lines_aside w ps)) (length (lines_aside w ps)) (length (lines_ahead w ps)) (length drops)
    (sum_of long) (sum_of short) (sum_of hung) (sum_of last)
    (row_enough ps root w places.0)
    (columns_enough ps root w drops tip form.shape.forward places.1 places.3)
    (long_sum ps root w drops tip form.shape.forward places.0 places.3)
    (omega (arith, leg_or_none, pos, leg_line_sum, drop_le))
    (drops_sum ps root w drops places.0 places.1)
    (side_sum ps root w side tip form.shape.hangs places.0 places.3 places.2) in
    let a = sum_by-append length_of_piece (long ++ short ++ hung) last in
    let b = sum_by-append length_of_piece (long ++ short) hung in
    let c = sum_by-append length_of_piece long short in
    omega (arith, total_seen w ps)

-- ---- crosses

-- a value between two others is as far from both as they are apart
cut_sum : (a b c : ℤ) → a <ℤ b → b <ℤ c → unsigned_abs (b -ℤ a) + unsigned_abs (b -ℤ c) ≡ unsigned_abs (c -ℤ a)
cut_sum a b c low high = omega (arith, ints)

no_distance : (a b : ℤ) → a ≡ b → unsigned_abs (a -ℤ b) ≡ 0
no_distance a b same = omega (arith, ints)

-- a horizontal line and a vertical one
cross_sum : (w s e n : Point) → IsCrossShape w s e n
    → let middle : Point = record { x = s.x; y = w.y } in
    distance_between middle w + distance_between middle s + distance_between middle e + distance_between middle n ≡ unsigned_abs (e.x -ℤ w.x) + unsigned_abs (n.y -ℤ s.y)
cross_sum w s e n shape =
    grind (
      arith,
      cut_sum w.x s.x e.x shape.right_of_west shape.left_of_east,
      cut_sum s.y w.y n.y shape.above_south shape.below_north,
      no_distance w.y w.y refl,
      no_distance s.x s.x refl,
      no_distance w.y e.y shape.level,
      no_distance s.x n.x shape.upright,
    )

cross_fits : (ps : List Point) (west south east north : ℕ) → IsInForm ps (Cross west south east north) → code_length ps (Cross west south east north) ≤ total_of (hanan_grid_of ps)
cross_fits ps west south east north form =
    let w_in : west < length ps = form.terminals 0 0 (omega arith) in
    let s_in : south < length ps = form.terminals 1 0 (omega arith) in
    let e_in : east < length ps = form.terminals 2 0 (omega arith) in
    let n_in : north < length ps = form.terminals 3 0 (omega arith) in
    let to = λ (k : ℕ). piece_between (crossing_of ps west south) (point_at ps k) in
    let a = sum_by-cons length_of_piece (to west) (to south ∷ to east ∷ to north ∷ []) in
    let b = sum_by-cons length_of_piece (to south) (to east ∷ to north ∷ []) in
    let c = sum_by-cons length_of_piece (to east) (to north ∷ []) in
    let d = sum_by-cons length_of_piece (to north) [] in
    let whole = cross_sum (point_at ps west) (point_at ps south) (point_at ps east) (point_at ps north) form.shape in
    let wide = apart_le (xs_of ps) (point_at ps east).x (point_at ps west).x (IsCrossing-point_at ps east e_in).x (IsCrossing-point_at ps west w_in).x (IsRising-xs_of ps) in
    let high = apart_le (ys_of ps) (point_at ps north).y (point_at ps south).y (IsCrossing-point_at ps north n_in).y (IsCrossing-point_at ps south s_in).y (IsRising-ys_of ps) in
    let column = place_of-below (point_at ps west).x (xs_of ps) (IsCrossing-point_at ps west w_in).x (IsRising-xs_of ps) in
    let row = place_of-below (point_at ps west).y (ys_of ps) (IsCrossing-point_at ps west w_in).y (IsRising-ys_of ps) in
    let rows = mul-le 1 (width_of (xs_of ps)) (length (ys_of ps)) (width_of (xs_of ps)) (omega arith) (omega arith) in
    let columns = mul-le 1 (width_of (ys_of ps)) (length (xs_of ps)) (width_of (ys_of ps)) (omega arith) (omega arith) in
    omega (arith, total_of-hanan_grid_of ps)

-- ---- all codes

-- a tree in form is no longer than the grid's total
pub code_length-le : (ps : List Point) (code : TreeCode) → IsInForm ps code → code_length ps code ≤ total_of (hanan_grid_of ps)
code_length-le ps code form = grind (arith, long_fits, cross_fits)

-- ---- sums as they grow

-- one more piece
pub sum-more : (pieces : List Piece) (n : ℕ) (x : Piece) (total length : ℕ) → slice_get pieces n ≡ Some x → total ≡ sum_of (take n pieces) → length ≡ length_of_piece x → total + length ≡ sum_of (take (n + 1) pieces)
sum-more pieces n x total long at so_far is =
    grind (arith, slice_get_within pieces n x, get_or_from_slice_get pieces n x x, take_more pieces n x (slice_get_within pieces n x at), sum_by-append length_of_piece (take n pieces) (x ∷ []), sum_by-cons length_of_piece x)

-- no more than all of them
pub sum-more_le : (pieces : List Piece) (n : ℕ) (x : Piece) (total length : ℕ) → slice_get pieces n ≡ Some x → total ≡ sum_of (take n pieces) → length ≡ length_of_piece x → total + length ≤ sum_of pieces
sum-more_le pieces n x total long at so_far is =
    grind (arith, slice_get_within pieces n x, get_or_from_slice_get pieces n x x, sum_by_more_le length_of_piece pieces n x (slice_get_within pieces n x at))
