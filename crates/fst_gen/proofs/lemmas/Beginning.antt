-- What is asked of a code holds in its beginning, as far as it speaks of this alone.
use Rattle.std.proofs.Common.{ℕ, ◌≡◌, ◌≢◌, ◌+◌, ◌<◌, ℤ, pos, ◌<ℤ◌, List, [], ◌∷◌, ◌++◌, length, get_or, map, ap, sym, subst, ◌∙◌, ◌⊎◌, inl, inr, arith, length-append, Option, Some, None, IfSome}
use Rattle.std.specs.Prelude.{All, AllPairs, Contains, option_to_list}
use Rattle.std.proofs.lemmas.Int.{ints}
use Rattle.std.proofs.lemmas.List.{append_assoc, get_or_append_left, get_or-append-add, get_or_default}
use Rattle.std.proofs.lemmas.List.Elements.{All-nil, All-cons, All-head, All-tail, All-append, All-contains, Contains-append_left, Contains-append_right, Contains-append_cases}
use Rattle.lists.specs.ListLaws.{All-first, All-second}
use Rattle.full_tree.specs.GeometryLaws.{along-itself, across-itself}
use Rattle.points_in.specs.declared.point.Point.{Point}
use Rattle.hanan_grid.specs.Distance.{distance_between}
use Rattle.spanning.specs.Bottleneck.{IsBottleneck}
use Rattle.full_tree.specs.declared.way.Way.{Way}
use Rattle.full_tree.specs.declared.way.Way.TheVariants.{East, North, West, South}
use Rattle.full_tree.specs.declared.straight.Piece.{Piece}
use Rattle.full_tree.specs.declared.station.Station.{Station}
use Rattle.full_tree.specs.declared.code.TreeCode.TheVariants.{Long}
use Rattle.full_tree.specs.Geometry.{point_at, along, across, point_seen, RisesFrom}
use Rattle.full_tree.specs.Form.{along_of, across_of, IsOnShortLeg}
use Rattle.full_tree.specs.LongLaws.{long_names_few}
use Rattle.full_tree.specs.Pieces.{piece_between, foot, side_foot, line_over, long_leg, short_leg, drop_pieces, side_piece}
use Rattle.full_tree.specs.Stations.{station, station_at, drop_stations, first_stations, last_foot}
use Rattle.full_tree.specs.Passing.{Passes, IsClear, IsWithinBottleneck, KeepsBottlenecks}
use Rattle.fst_gen.specs.Prefix.{MayBegin, FailingBeginningNeverPasses, first_pieces}
use Rattle.fst_gen.proofs.lemmas.Pairs.{no_distance}
use Rattle.fst_gen.proofs.lemmas.Prefixes.{rises_first, in_turn_first, stations_begin, keeps_first}

-- ---- lists

AllPairs-first : {X : Type 0} (R : X → X → Type 0) (xs ys : List X) → AllPairs R (xs ++ ys) → AllPairs R xs
AllPairs-first R xs ys all i j d before inside =
    grind (arith, length-append xs ys, get_or_append_left, get_or_append_left xs ys d j inside)

-- what rises rises above what it began with
rises_all : (f : ℕ → ℤ) (z : ℤ) (ys : List ℕ) → RisesFrom z (map f ys) → All (λ y. z <ℤ f y) ys
rises_all f z [] rises = All-nil (λ y. z <ℤ f y)
rises_all f z (y ∷ ys) rises = grind (arith, rises_all f (f y) ys rises.1)

-- .. and later values above earlier ones
rises_late : (f : ℕ → ℤ) (z : ℤ) (xs ys : List ℕ) → RisesFrom z (map f (xs ++ ys)) → All (λ x. All (λ y. f x <ℤ f y) ys) xs
rises_late f z [] ys rises = All-nil (λ x. All (λ y. f x <ℤ f y) ys)
rises_late f z (x ∷ xs) ys rises = All-cons (λ u. All (λ y. f u <ℤ f y) ys) x xs
    (All-second (λ y. f x <ℤ f y) xs ys (rises_all f (f x) (xs ++ ys) rises.1))
    (rises_late f (f x) xs ys rises.1)

-- ---- where feet lie

along-seen : (r : Point) (w : Way) (a c : ℤ) → along r w (point_seen r w a c) ≡ a
along-seen r East a c = omega (arith, ints)
along-seen r North a c = omega (arith, ints)
along-seen r West a c = omega (arith, ints)
along-seen r South a c = omega (arith, ints)

across-seen : (r : Point) (w : Way) (a c : ℤ) → across r w (point_seen r w a c) ≡ c
across-seen r East a c = omega (arith, ints)
across-seen r North a c = omega (arith, ints)
across-seen r West a c = omega (arith, ints)
across-seen r South a c = omega (arith, ints)

-- ---- pieces that are clear of late members

module _ (ps : List Point) (named early : List ℕ) where
  -- of the named places, only early ones stand at the point
  abbrev IsEarlyAt : Point → Type 0
  IsEarlyAt p = (k : ℕ) → Contains named k → point_at ps k ≡ p → Contains early k

  clear_less : (x : Piece) → IsEarlyAt x.from → IsEarlyAt x.to → IsClear ps named x → IsClear ps early x
  clear_less x from to clear k inside on =
      grind (arith, clear k inside on, from k (clear k inside on).0, to k (clear k inside on).0)

  module _ (root : ℕ) (toward : Way) where
    leg_clear : (p : Point) (ds more : List ℕ) (rest : List Point) → IsEarlyAt p → All (λ d. IsEarlyAt (foot ps root toward d)) ds
        → All (IsClear ps named) (line_over p (map (foot ps root toward) (ds ++ more) ++ rest))
        → All (IsClear ps early) (line_over p (map (foot ps root toward) ds))
    leg_clear p [] more rest at feet clear = All-nil (IsClear ps early)
    leg_clear p (d ∷ ds) more rest at feet clear =
        let q = foot ps root toward d in
        let Feet = λ (e : ℕ). IsEarlyAt (foot ps root toward e) in
        let here = All-head Feet d ds feet in
        let others = line_over q (map (foot ps root toward) (ds ++ more) ++ rest) in
        All-cons (IsClear ps early) (piece_between p q) (line_over q (map (foot ps root toward) ds))
        (clear_less (piece_between p q) at here (All-head (IsClear ps named) (piece_between p q) others clear))
        (leg_clear q ds more rest here (All-tail Feet d ds feet) (All-tail (IsClear ps named) (piece_between p q) others clear))

    hung_clear : (ds more : List ℕ) → All (λ d. IsEarlyAt (foot ps root toward d)) ds → All (λ d. IsEarlyAt (point_at ps d)) ds
        → All (IsClear ps named) (drop_pieces ps root toward (ds ++ more)) → All (IsClear ps early) (drop_pieces ps root toward ds)
    hung_clear [] more feet ends clear = All-nil (IsClear ps early)
    hung_clear (d ∷ ds) more feet ends clear =
        let Feet = λ (e : ℕ). IsEarlyAt (foot ps root toward e) in
        let Ends = λ (e : ℕ). IsEarlyAt (point_at ps e) in
        let x = piece_between (foot ps root toward d) (point_at ps d) in
        let others = drop_pieces ps root toward (ds ++ more) in
        All-cons (IsClear ps early) x (drop_pieces ps root toward ds)
        (clear_less x (All-head Feet d ds feet) (All-head Ends d ds ends) (All-head (IsClear ps named) x others clear))
        (hung_clear ds more (All-tail Feet d ds feet) (All-tail Ends d ds ends) (All-tail (IsClear ps named) x others clear))

-- ---- a side and the drops

-- the stations before one keep the bottleneck with its member
keeps_with : (ps : List Point) (xs : List Station) (s : Station) (rest : List Station) → KeepsBottlenecks ps (xs ++ s ∷ rest)
    → All (λ x. IsWithinBottleneck ps x.member s.member x.leg) xs
keeps_with ps xs s rest keeps k d inside =
    let none = station 0 0 0 in
    let all = xs ++ s ∷ rest in
    let size = length-append xs (s ∷ rest) in
    let here : station_at all k ≡ get_or xs k d = get_or_append_left xs (s ∷ rest) none k inside ∙ get_or_default xs k none d inside in
    let there : station_at all (length xs) ≡ s =
    subst (λ (n : ℕ). station_at all n ≡ s) (omega arith) (get_or-append-add xs (s ∷ rest) 0 none) in
    let both = keeps (length xs) (omega (arith, size)) k inside in
    subst (λ (x : Station). IsWithinBottleneck ps x.member s.member x.leg) here
    (subst (λ (t : Station). IsWithinBottleneck ps (station_at all k).member t.member (station_at all k).leg) there both.first)

module _ (ps : List Point) (root : ℕ) (toward : Way) where
  -- what holds of the stations of drops holds of these, with the length of their pieces
  legs_all : (Q : ℕ → ℕ → Type 0) (from : Point) (ds : List ℕ) → All (λ s. Q s.member s.leg) (drop_stations ps root toward from ds)
      → All (λ d. Q d (distance_between (foot ps root toward d) (point_at ps d))) ds
  legs_all Q from [] all = All-nil (λ d. Q d (distance_between (foot ps root toward d) (point_at ps d)))
  legs_all Q from (d ∷ ds) all =
      let q = foot ps root toward d in
      let P = λ (s : Station). Q s.member s.leg in
      let s = station d (distance_between from q) (distance_between q (point_at ps d)) in
      let others = drop_stations ps root toward q ds in
      All-cons (λ e. Q e (distance_between (foot ps root toward e) (point_at ps e))) d ds
      (All-head P s others all) (legs_all Q q ds (All-tail P s others all))

-- two terminals at one point have the bottleneck 0
IsBottleneck-none : (ps : List Point) (i j : ℕ) → i < length ps → j < length ps → point_at ps j ≡ point_at ps i → IsBottleneck ps i j 0
IsBottleneck-none ps i j i_in j_in same = grind arith

module _ (ps : List Point) (root : ℕ) (toward : Way) (tip : ℕ) where
  -- a side hangs beside the long leg
  side_off : (side : Option ℕ) → IfSome side (IsOnShortLeg ps root toward tip) → All (λ q. across_of ps root toward q ≢ pos 0) (option_to_list side)
  side_off side hangs = grind arith

  -- .. and at no drop's point, as the drop's piece is no longer than their bottleneck
  side_apart : (ds : List ℕ) (side : Option ℕ) → Passes ps (Long root toward ds side tip)
      → All (λ q. All (λ d. point_at ps q ≢ point_at ps d) ds) (option_to_list side)
  side_apart ds None passes = All-nil (λ q. All (λ d. point_at ps q ≢ point_at ps d) ds)
  side_apart ds (Some q) passes =
      let start = point_at ps root in
      let from = last_foot ps root toward start ds in
      let corner = foot ps root toward tip in
      let there = side_foot ps root toward tip q in
      let s = station q (distance_between from corner + distance_between corner there) (distance_between there (point_at ps q)) in
      let names = long_names_few ps root toward ds (Some q) tip passes.form in
      let q_in : q < length ps = All-head (λ k. k < length ps) q [] names.side_in in
      let Keeps = λ (x : Station). IsWithinBottleneck ps x.member q x.leg in
      let keeps = keeps_with ps (first_stations ps root toward ds) s (station tip (distance_between there (point_at ps tip)) 0 ∷ []) passes.bottlenecks in
      let legs = legs_all ps root toward (λ m leg. IsWithinBottleneck ps m q leg) start ds
      (All-tail Keeps (station root 0 0) (drop_stations ps root toward start ds) keeps) in
      All-cons (λ k. All (λ d. point_at ps k ≢ point_at ps d) ds) q []
      (λ n e inside same.
      let d = get_or ds n e in
      let close = legs n e inside 0 (IsBottleneck-none ps d q (names.drops_in n e inside) q_in same) in
      let one : foot ps root toward d ≡ point_at ps d = no_distance (foot ps root toward d) (point_at ps d) (omega arith) in
      passes.form.shape.sides.off n e inside
      (sym (ap (across start toward) one) ∙ across-seen start toward (along_of ps root toward d) (pos 0)))
      (All-nil (λ k. All (λ d. point_at ps k ≢ point_at ps d) ds))

-- ---- the law

module _ (ps : List Point) (root : ℕ) (toward : Way) (drops more : List ℕ) (side : Option ℕ) (tip : ℕ)
    (passes : Passes ps (Long root toward (drops ++ more) side tip)) where
  abbrev begun : List ℕ
  begun = drops ++ more

  abbrev hung : List ℕ
  hung = begun ++ option_to_list side

  abbrev named : List ℕ
  named = root ∷ (hung ++ tip ∷ [])

  abbrev early : List ℕ
  early = root ∷ drops

  -- the places that the code names behind the drops, without the side
  abbrev late : List ℕ
  late = more ++ tip ∷ []

  abbrev start : Point
  start = point_at ps root

  abbrev ahead : ℕ → ℤ
  ahead = along_of ps root toward

  abbrev beside : ℕ → ℤ
  beside = across_of ps root toward

  named_cases : (k : ℕ) → Contains named k → Contains early k ⊎ (Contains late k ⊎ Contains (option_to_list side) k)
  named_cases k has = elim (Contains-append_cases (root ∷ hung) (tip ∷ []) k has) [
    | inl here ↦ elim (Contains-append_cases (root ∷ begun) (option_to_list side) k here) [
      | inl first ↦ elim (Contains-append_cases early more k first) [
        | inl at ↦ inl at
        | inr at ↦ inr (inl (Contains-append_left more (tip ∷ []) k at))
      ]
      | inr hangs ↦ inr (inr hangs)
    ]
    | inr last ↦ inr (inl (Contains-append_right more (tip ∷ []) k last))
  ]

  forward : RisesFrom (pos 0) (map ahead (drops ++ late))
  forward = grind (arith, append_assoc)

  past_root : All (λ y. pos 0 <ℤ ahead y) late
  past_root = All-second (λ y. pos 0 <ℤ ahead y) drops late (rises_all ahead (pos 0) (drops ++ late) forward)

  past_drops : All (λ d. All (λ y. ahead d <ℤ ahead y) late) drops
  past_drops = rises_late ahead (pos 0) drops late forward

  beside_leg : All (λ q. beside q ≢ pos 0) (option_to_list side)
  beside_leg = side_off ps root toward tip side passes.form.shape.hangs

  -- a place behind the drops stands at no point of the beginning that it could share
  abbrev IsEarly : Point → Type 0
  IsEarly = IsEarlyAt ps named early

  early_unless : (p : Point) → ((k : ℕ) → Contains late k → point_at ps k ≢ p) → ((k : ℕ) → Contains (option_to_list side) k → point_at ps k ≢ p)
      → IsEarly p
  early_unless p late_off side_off k has same = elim (named_cases k has) [
    | inl at ↦ at
    | inr rest ↦ elim rest [
      | inl behind ↦ absurd (late_off k behind same)
      | inr hangs ↦ absurd (side_off k hangs same)
    ]
  ]

  at_root : IsEarly start
  at_root = early_unless start
      (λ k behind same.
      let above = All-contains (λ y. pos 0 <ℤ ahead y) late k past_root behind in
      let none : ahead k ≡ pos 0 = ap (along start toward) same ∙ along-itself start toward in
      omega (arith, ints))
      (λ k hangs same. All-contains (λ q. beside q ≢ pos 0) (option_to_list side) k beside_leg hangs
      (ap (across start toward) same ∙ across-itself start toward))

  at_feet : All (λ d. IsEarly (foot ps root toward d)) drops
  at_feet n e inside =
      let d = get_or drops n e in
      early_unless (foot ps root toward d)
      (λ k behind same.
      let above = All-contains (λ y. ahead d <ℤ ahead y) late k (past_drops n e inside) behind in
      let level : ahead k ≡ ahead d = ap (along start toward) same ∙ along-seen start toward (ahead d) (pos 0) in
      omega (arith, ints))
      (λ k hangs same. All-contains (λ q. beside q ≢ pos 0) (option_to_list side) k beside_leg hangs
      (ap (across start toward) same ∙ across-seen start toward (ahead d) (pos 0)))

  at_ends : All (λ d. IsEarly (point_at ps d)) drops
  at_ends n e inside =
      let d = get_or drops n e in
      let apart = side_apart ps root toward tip begun side passes in
      early_unless (point_at ps d)
      (λ k behind same.
      let above = All-contains (λ y. ahead d <ℤ ahead y) late k (past_drops n e inside) behind in
      let level : ahead k ≡ ahead d = ap (along start toward) same in
      omega (arith, ints))
      (λ k hangs same.
      let from_all = All-contains (λ q. All (λ x. point_at ps q ≢ point_at ps x) begun) (option_to_list side) k apart hangs in
      All-first (λ x. point_at ps k ≢ point_at ps x) drops more from_all n e inside same)

  clear : All (IsClear ps early) (first_pieces ps root toward drops)
  clear =
      let leg = long_leg ps root toward begun tip in
      let short = short_leg ps root toward side tip in
      let pieces = drop_pieces ps root toward begun in
      let Clear = IsClear ps named in
      let most = All-first Clear ((leg ++ short) ++ pieces) (side_piece ps root toward side tip) passes.clear in
      let legs = All-first Clear (leg ++ short) pieces most in
      All-append (IsClear ps early) (line_over start (map (foot ps root toward) drops)) (drop_pieces ps root toward drops)
      (leg_clear ps named early root toward start drops more (foot ps root toward tip ∷ []) at_root at_feet (All-first Clear leg short legs))
      (hung_clear ps named early root toward drops more at_feet at_ends (All-second Clear (leg ++ short) pieces most))

  MayBegin-from_passing : MayBegin ps root toward drops
  MayBegin-from_passing =
      let Differ = λ (p q : ℕ). p ≢ q in
      let IsPlace = λ (k : ℕ). k < length ps in
      let names = long_names_few ps root toward begun side tip passes.form in
      let size = length-append drops more in
      let begin = stations_begin ps root toward drops more side tip in
      record {
        few = omega (arith, size, names.few);
        distinct = AllPairs-first Differ early more (AllPairs-first Differ (root ∷ begun) (option_to_list side)
            (AllPairs-first Differ (root ∷ hung) (tip ∷ []) passes.form.members.distinct));
        terminals = All-first IsPlace early more (All-first IsPlace (root ∷ begun) (option_to_list side)
            (All-first IsPlace (root ∷ hung) (tip ∷ []) passes.form.terminals));
        forward = rises_first ahead (pos 0) drops late forward;
        off = All-first (λ d. beside d ≢ pos 0) drops more passes.form.shape.sides.off;
        in_turn = in_turn_first beside drops more passes.form.shape.sides.in_turn;
        clear = clear;
        bottlenecks = keeps_first ps (first_stations ps root toward drops) begin.0
            (subst (λ (ss : List Station). KeepsBottlenecks ps ss) begin.1 passes.bottlenecks);
      }

pub failing_beginning : FailingBeginningNeverPasses
failing_beginning ps root toward drops fails code (more, side, tip, is) passing = grind (arith, MayBegin-from_passing)
