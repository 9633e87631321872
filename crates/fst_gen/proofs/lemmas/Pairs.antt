-- Two terminals whose distance is their bottleneck have a tree by themselves, and such trees join all terminals.
use Rattle.std.specs.Prelude.{ℕ, ◌≡◌, ◌≢◌, ◌+◌, ◌-◌, ◌<◌, ◌≤◌, ◌⊎◌, ℤ, pos, ◌-ℤ◌, ◌<ℤ◌, ◌≤ℤ◌, Bool, true, false, List, [], ◌∷◌, ◌++◌, length, unsigned_abs, All, Contains, None, if◌then◌else◌}
use Rattle.std.specs.Ordering.{int_eq}
use Rattle.std.proofs.Common.{refl, ap, sym, subst, ◌∙◌, arith, inl, inr}
use Rattle.std.proofs.lemmas.Bool.{cases_eq}
use Rattle.std.proofs.lemmas.Int.{ints, by_lt_z}
use Rattle.std.proofs.lemmas.List.Elements.{All-nil, All-cons}
use Rattle.std.proofs.lemmas.List.Kept.{AllPairs-cons}
use Rattle.points_in.specs.declared.point.Point.{Point}
use Rattle.points_in.specs.PointLaws.{same_coordinates}
use Rattle.points_in.specs.Terminals.{AreDistinct}
use Rattle.hanan_grid.specs.Distance.{distance_between, distance_of}
use Rattle.net_graph.specs.SearchLaws.{Leads-start, Leads-more, Leads-weaker}
use Rattle.spanning.specs.Bottleneck.{IsHop, IsBottleneck, IsTight}
use Rattle.spanning.specs.BottleneckLaws.{IsBottleneck-one}
use Rattle.spanning.specs.TightLaws.{tight_pairs-join}
use Rattle.full_tree.specs.declared.way.Way.{Way}
use Rattle.full_tree.specs.declared.way.Way.TheVariants.{East, North, West, South}
use Rattle.full_tree.specs.declared.station.Station.{Station}
use Rattle.full_tree.specs.declared.code.Tree.{Tree}
use Rattle.full_tree.specs.declared.code.TreeCode.{TreeCode}
use Rattle.full_tree.specs.declared.code.TreeCode.TheVariants.{Long}
use Rattle.full_tree.specs.Geometry.{point_at, along, point_seen}
use Rattle.full_tree.specs.Code.{members_of, ascending_places}
use Rattle.full_tree.specs.Form.{IsInForm, across_of, along_of}
use Rattle.full_tree.specs.Pieces.{piece_between, foot}
use Rattle.full_tree.specs.Stations.{stations_of, station_at}
use Rattle.full_tree.specs.Passing.{IsBetween, LiesOn, IsClear, KeepsBetween, KeepsBottlenecks, Passes}
use Rattle.fst_gen.specs.Trees.{AreTreesOf}
use Rattle.full_tree.specs.Pairs.{HasPair, PairsJoinAll}
use Rattle.fst_gen.specs.Joins.{SharesTree, TreesJoin}

-- ---- numbers

-- a number between two others is as far from both together as they are apart
on_way : (a b z : ℤ) → IsBetween a b z → unsigned_abs (a -ℤ z) + unsigned_abs (z -ℤ b) ≡ unsigned_abs (a -ℤ b)
on_way a b z (inl (low, high)) = omega (arith, ints)
on_way a b z (inr (low, high)) = omega (arith, ints)

at_start : (a b z : ℤ) → z ≡ a → unsigned_abs (a -ℤ z) + unsigned_abs (z -ℤ b) ≡ unsigned_abs (a -ℤ b)
at_start a b z same = omega (arith, ints)

at_end : (a b z : ℤ) → z ≡ b → unsigned_abs (a -ℤ z) + unsigned_abs (z -ℤ b) ≡ unsigned_abs (a -ℤ b)
at_end a b z same = omega (arith, ints)

-- nothing else lies between a number and itself
between_same : (a b z : ℤ) → a ≡ b → IsBetween a b z → z ≡ a
between_same a b z same h = grind arith

-- only a number itself is no way from it
no_way : (a b : ℤ) → unsigned_abs (a -ℤ b) ≡ 0 → a ≡ b
no_way a b is = omega (arith, ints)

-- ---- the corner

-- one coordinate of the point f is that of q, the other one that of r
abbrev IsCorner : Point → Point → Point → Type 0
IsCorner r q f = ((f.x ≡ q.x) × (f.y ≡ r.y)) ⊎ ((f.x ≡ r.x) × (f.y ≡ q.y))

-- the corner of a code
corner_seen : (r : Point) (w : Way) (q : Point) → IsCorner r q (point_seen r w (along r w q) (pos 0))
corner_seen r East q = inl (omega (arith, ints), omega (arith, ints))
corner_seen r North q = inr (omega (arith, ints), omega (arith, ints))
corner_seen r West q = inl (omega (arith, ints), omega (arith, ints))
corner_seen r South q = inr (omega (arith, ints), omega (arith, ints))

-- who stands at the corner has the other point beside
corner_behind : (r : Point) (w : Way) (q : Point) → r ≡ point_seen r w (along r w q) (pos 0) → along r w q ≡ pos 0
corner_behind r East q same = let e = ap (λ (p : Point). p.x) same in omega (arith, ints)
corner_behind r North q same = let e = ap (λ (p : Point). p.y) same in omega (arith, ints)
corner_behind r West q same = let e = ap (λ (p : Point). p.x) same in omega (arith, ints)
corner_behind r South q same = let e = ap (λ (p : Point). p.y) same in omega (arith, ints)

-- from another point one looks to it in some direction
ahead_of : (r q : Point) → r ≢ q → (w : Way) × (pos 0 <ℤ along r w q)
ahead_of r q apart = by_lt_z r.x q.x
    (λ (right : r.x <ℤ q.x). (East, omega (arith, ints)))
    (λ (right : q.x ≤ℤ r.x). by_lt_z q.x r.x
    (λ (left : q.x <ℤ r.x). (West, omega (arith, ints)))
    (λ (left : r.x ≤ℤ q.x). by_lt_z r.y q.y
    (λ (above : r.y <ℤ q.y). (North, omega (arith, ints)))
    (λ (above : q.y ≤ℤ r.y). by_lt_z q.y r.y
    (λ (below : q.y <ℤ r.y). (South, omega (arith, ints)))
    (λ (below : r.y ≤ℤ q.y). absurd (apart (same_coordinates r q (omega (arith, ints)) (omega (arith, ints))))))))

module _ (r q f : Point) where
  -- a point on either leg is on a shortest way
  on_first : (t : Point) → IsCorner r q f → LiesOn (piece_between r f) t
      → distance_between r t + distance_between t q ≡ distance_between r q
  on_first t (inl (fx, fy)) on =
      let a = on_way r.x q.x t.x (subst (λ z. IsBetween r.x z t.x) fx on.x) in
      let b = at_start r.y q.y t.y (between_same r.y f.y t.y (sym fy) on.y) in
      omega arith
  on_first t (inr (fx, fy)) on =
      let a = on_way r.y q.y t.y (subst (λ z. IsBetween r.y z t.y) fy on.y) in
      let b = at_start r.x q.x t.x (between_same r.x f.x t.x (sym fx) on.x) in
      omega arith

  on_second : (t : Point) → IsCorner r q f → LiesOn (piece_between f q) t
      → distance_between r t + distance_between t q ≡ distance_between r q
  on_second t (inl (fx, fy)) on =
      let a = at_end r.x q.x t.x (between_same f.x q.x t.x fx on.x ∙ fx) in
      let b = on_way r.y q.y t.y (subst (λ z. IsBetween z q.y t.y) fy on.y) in
      omega arith
  on_second t (inr (fx, fy)) on =
      let a = at_end r.y q.y t.y (between_same f.y q.y t.y fy on.y ∙ fy) in
      let b = on_way r.x q.x t.x (subst (λ z. IsBetween z q.x t.x) fx on.x) in
      omega arith

  -- the far end of one leg lies on the other one only where it is the corner
  end_on_first : IsCorner r q f → LiesOn (piece_between r f) q → q ≡ f
  end_on_first (inl (fx, fy)) on = same_coordinates q f (sym fx) (between_same r.y f.y q.y (sym fy) on.y ∙ sym fy)
  end_on_first (inr (fx, fy)) on = same_coordinates q f (between_same r.x f.x q.x (sym fx) on.x ∙ sym fx) (sym fy)

  start_on_second : IsCorner r q f → LiesOn (piece_between f q) r → r ≡ f
  start_on_second (inl (fx, fy)) on = same_coordinates r f (between_same f.x q.x r.x fx on.x) (sym fy)
  start_on_second (inr (fx, fy)) on = same_coordinates r f (sym fx) (between_same f.y q.y r.y fy on.y)

  -- both legs are as long as the points are apart
  legs : IsCorner r q f → distance_between r f + distance_between f q ≡ distance_between r q
  legs h = grind (arith, at_end, at_start)

-- points that are no distance apart are one
pub no_distance : (p q : Point) → distance_between p q ≡ 0 → p ≡ q
no_distance p q is = same_coordinates p q (no_way p.x q.x (omega arith)) (no_way p.y q.y (omega arith))

-- ---- the code of a tight pair

one_is : (c : ℕ) → 0 < c → c ≤ 1 → 1 ≡ c
one_is c over under = omega arith

-- two places of distinct points have two points
apart_at : (ps : List Point) (u v : ℕ) → AreDistinct ps → u < length ps → v < length ps → u ≢ v → point_at ps u ≢ point_at ps v
apart_at ps u v distinct u_in v_in apart same = grind arith

module _ (ps : List Point) (i j : ℕ) (distinct : AreDistinct ps) (tight : IsTight ps i j) where
  -- no third terminal lies on a shortest way between them
  no_third : (k : ℕ) → k < length ps → distance_of ps i k + distance_of ps k j ≡ distance_of ps i j → (k ≡ i) ⊎ (k ≡ j)
  no_third k k_in on = elim (cases_eq k i) [
    | inl same ↦ inl same
    | inr apart ↦ elim (cases_eq k j) [
      | inl same ↦ inr same
      | inr apart' ↦
          let most = distance_of ps i j - 1 in
          let first : distance_of ps i k ≢ 0 =
          λ none. apart_at ps i k distinct tight.from k_in (λ e. apart (sym e)) (no_distance (point_at ps i) (point_at ps k) none) in
          let last : distance_of ps k j ≢ 0 =
          λ none. apart_at ps k j distinct k_in tight.to apart' (no_distance (point_at ps k) (point_at ps j) none) in
          let to : IsHop ps most i k = record { from = tight.from; to = k_in; short = omega arith } in
          let on' : IsHop ps most k j = record { from = k_in; to = tight.to; short = omega arith } in
          let led = Leads-more (IsHop ps most) i k j (Leads-more (IsHop ps most) i i k (Leads-start (IsHop ps most) i) to) on' in
          let less = tight.bottleneck.least most led in
          absurd (omega arith)
    ]
  ]

  module _ (w : Way) (ahead : pos 0 <ℤ along_of ps i w j) where
    abbrev r : Point
    r = point_at ps i

    abbrev q : Point
    q = point_at ps j

    abbrev f : Point
    f = foot ps i w j

    corner : IsCorner r q f
    corner = corner_seen r w q

    -- the places that the code names
    abbrev named : List ℕ
    named = i ∷ j ∷ []

    has_first : Contains named i
    has_first = (0, omega arith, refl)

    has_second : Contains named j
    has_second = (1, omega arith, refl)

    clear_first : IsClear ps named (piece_between r f)
    clear_first k k_in on = elim (no_third k k_in (on_first r q f (point_at ps k) corner on)) [
      | inl same ↦ (subst (λ u. Contains named u) (sym same) has_first, inl (ap (point_at ps) same))
      | inr same ↦
          let at : point_at ps k ≡ q = ap (point_at ps) same in (
            subst (λ u. Contains named u) (sym same) has_second,
            inr (at ∙ end_on_first r q f corner (subst (λ p. LiesOn (piece_between r f) p) at on)),
          )
    ]

    clear_second : IsClear ps named (piece_between f q)
    clear_second k k_in on = elim (no_third k k_in (on_second r q f (point_at ps k) corner on)) [
      | inl same ↦
          let at : point_at ps k ≡ r = ap (point_at ps) same in
          let here = start_on_second r q f corner (subst (λ p. LiesOn (piece_between f q) p) at on) in
          let none : along_of ps i w j ≡ pos 0 = corner_behind r w q here in
          absurd (omega (arith, ints))
      | inr same ↦ (subst (λ u. Contains named u) (sym same) has_second, inr (ap (point_at ps) same))
    ]

    clear_short : (b : Bool) → All (IsClear ps named) (((if b then [] else piece_between f q ∷ []) ++ []) ++ [])
    clear_short true = All-nil (IsClear ps named)
    clear_short false = All-cons (IsClear ps named) (piece_between f q) [] clear_second (All-nil (IsClear ps named))

    abbrev code : TreeCode
    code = Long i w [] None j

    in_form : IsInForm ps code
    in_form = record {
      members = record {
        few = omega arith;
        distinct = AllPairs-cons (λ u v. u ≢ v) i (j ∷ []) (All-cons (λ v. i ≢ v) j [] tight.apart (All-nil (λ v. i ≢ v)))
            (AllPairs-cons (λ u v. u ≢ v) j [] (All-nil (λ v. j ≢ v)) (λ a b d before inside. absurd (omega arith)));
      };
      terminals = All-cons (λ k. k < length ps) i (j ∷ []) tight.from (All-cons (λ k. k < length ps) j [] tight.to (All-nil (λ k. k < length ps)));
      shape = record {
        forward = (ahead, tt);
        sides = record { off = All-nil (λ d. across_of ps i w d ≢ pos 0); in_turn = tt; last = λ beside. tt };
        hangs = tt;
      };
    }

    -- the way from the one to the other is one stretch
    abbrev stations : List Station
    stations = stations_of ps code

    whole : (most : ℕ) → IsBottleneck ps i j most → (station_at stations 1).before ≤ most
    whole most is =
        let one = IsBottleneck-one ps i j most (distance_of ps i j) is tight.bottleneck in
        let sum = legs r q f corner in
        omega arith

    keeps_both : KeepsBetween ps stations 0 1
    keeps_both = record {
      first = λ most is. omega arith;
      last = λ most is. omega arith;
      spine = λ c over under most is. subst (λ n. (station_at stations n).before ≤ most) (one_is c over under) (whole most is);
    }

    keeps : KeepsBottlenecks ps stations
    keeps b inside a before =
        let second : 1 ≡ b = omega arith in
        let first : 0 ≡ a = omega arith in
        subst (λ n. KeepsBetween ps stations a n) second (subst (λ n. KeepsBetween ps stations n 1) first keeps_both)

    pub passes_tight : Passes ps code
    passes_tight = record {
      form = in_form;
      clear = All-cons (IsClear ps named) (piece_between r f) _ clear_first (clear_short (int_eq (across_of ps i w j) (pos 0)));
      bottlenecks = keeps;
    }

-- ---- the list

-- both places in ascending order
pair_members : (i j : ℕ) → i ≢ j → (ascending_places (i ∷ j ∷ []) ≡ i ∷ j ∷ []) ⊎ (ascending_places (i ∷ j ∷ []) ≡ j ∷ i ∷ [])
pair_members i j apart = grind arith

pair_count : (ms : List ℕ) (i j : ℕ) → (ms ≡ i ∷ j ∷ []) ⊎ (ms ≡ j ∷ i ∷ []) → length ms ≡ 2
pair_count ms i j h = grind arith

same_pair : (ms ns : List ℕ) (i j : ℕ) → ms ≡ ns → (ns ≡ i ∷ j ∷ []) ⊎ (ns ≡ j ∷ i ∷ []) → (ms ≡ i ∷ j ∷ []) ⊎ (ms ≡ j ∷ i ∷ [])
same_pair ms ns i j same h = grind arith

module _ (ps : List Point) (k : ℕ) (trees : List Tree) (distinct : AreDistinct ps) (many : 2 ≤ k) (are : AreTreesOf ps k trees) where
  -- each tight pair has a tree of its own
  has_pair : (i j : ℕ) → IsTight ps i j → HasPair trees i j
  has_pair i j tight =
      let way = ahead_of (point_at ps i) (point_at ps j) (apart_at ps i j distinct tight.from tight.to tight.apart) in
      let code = Long i way.0 [] None j in
      let two = pair_members i j tight.apart in
      let count = pair_count (members_of code) i j two in
      let has = are.each_set code (record { passes = passes_tight ps i j distinct tight way.0 way.1; few = omega arith }) in
      record { tree = has.tree; listed = has.listed; members = same_pair (members_of has.tree.code) (members_of code) i j has.same two }

-- a tree of two members is shared by them
SharesTree-pair : (trees : List Tree) (i j : ℕ) → HasPair trees i j → SharesTree trees i j
SharesTree-pair trees i j pair = grind arith

pub pairs-join : (ps : List Point) (k : ℕ) (trees : List Tree) → AreDistinct ps → 2 ≤ k → AreTreesOf ps k trees → PairsJoinAll (length ps) trees
pairs-join ps k trees distinct many are i j i_in j_in =
    Leads-weaker (IsTight ps) (HasPair trees) (has_pair ps k trees distinct many are) i j (tight_pairs-join ps i j i_in j_in)

pub trees-join : TreesJoin
trees-join ps k trees distinct many are =
    let pairs = pairs-join ps k trees distinct many are in
    (λ i j i_in j_in. Leads-weaker (HasPair trees) (SharesTree trees) (SharesTree-pair trees) i j (pairs i j i_in j_in), pairs)
