-- A code passes only where each of its beginnings meets what can be asked of it.
use Rattle.std.specs.Prelude.{ℕ, suc, ◌≡◌, ◌≢◌, ◌+◌, ◌<◌, ◌≤◌, ℤ, pos, List, [], ◌∷◌, ◌++◌, length, map, All, Option, None, Some, IfSome}
use Rattle.std.specs.List.{last_or}
use Rattle.std.proofs.Common.{refl, ap, sym, subst, ◌∙◌, arith, inl, inr, ⊎_elim, length-append}
use Rattle.std.proofs.lemmas.List.{append_assoc, get_or_append_left, get_or-append-add}
use Rattle.std.proofs.lemmas.List.Elements.{All-push, All-nil, All-cons, All-head, All-tail}
use Rattle.lists.specs.ListLaws.{All-first}
use Rattle.full_tree.specs.PassingLaws.{IsBottleneck-at}
use Rattle.points_in.specs.declared.point.Point.{Point}
use Rattle.hanan_grid.specs.Distance.{distance_between}
use Rattle.full_tree.specs.declared.way.Way.{Way}
use Rattle.full_tree.specs.declared.station.Station.{Station}
use Rattle.full_tree.specs.declared.code.TreeCode.{TreeCode}
use Rattle.full_tree.specs.declared.code.TreeCode.TheVariants.{Long}
use Rattle.full_tree.specs.Geometry.{point_at, RisesFrom, AlternatesAfter, Alternates, AreOpposite}
use Rattle.full_tree.specs.Form.{along_of, across_of}
use Rattle.full_tree.specs.Pieces.{foot}
use Rattle.full_tree.specs.Stations.{station, station_at, drop_stations, first_stations, end_stations, last_foot, stations_of}
use Rattle.full_tree.specs.Passing.{Passes, IsWithinBottleneck, KeepsUpTo, KeepsBottlenecks}
use Rattle.full_tree.specs.StationsLaws.{member_of}
use Rattle.fst_gen.specs.declared.prefix.Prefix.{Prefix}
use Rattle.fst_gen.specs.Prefix.{last_member, MayFollow, HasPrefix, FailingDropNeverPasses, FarTipNeverPasses, IsPrefix, IsLongerBy}

-- ---- the form

pub rises_first : (f : ℕ → ℤ) (z : ℤ) (xs ys : List ℕ) → RisesFrom z (map f (xs ++ ys)) → RisesFrom z (map f xs)
rises_first f z [] ys rises = tt
rises_first f z (x ∷ xs) ys rises = (rises.0, rises_first f (f x) xs ys rises.1)

alternates_first : (f : ℕ → ℤ) (c : ℤ) (xs ys : List ℕ) → AlternatesAfter c (map f (xs ++ ys)) → AlternatesAfter c (map f xs)
alternates_first f c [] ys turns = tt
alternates_first f c (x ∷ xs) ys turns = (turns.0, alternates_first f (f x) xs ys turns.1)

pub in_turn_first : (f : ℕ → ℤ) (xs ys : List ℕ) → Alternates (map f (xs ++ ys)) → Alternates (map f xs)
in_turn_first f [] ys turns = tt
in_turn_first f (x ∷ xs) ys turns = alternates_first f (f x) xs ys turns

opposite_back : (a b : ℤ) → AreOpposite a b → AreOpposite b a
opposite_back a b opposite = ⊎_elim (λ one. inr (one.1, one.0)) (λ other. inl (other.1, other.0)) opposite

last_across : (f : ℕ → ℤ) (e : ℕ) (es : List ℕ) (x : ℕ) (rest : List ℕ) → AlternatesAfter (f e) (map f (es ++ x ∷ rest))
    → IfSome (last_or (Some e) es) (λ l. AreOpposite (f x) (f l))
last_across f e [] x rest turns = opposite_back (f e) (f x) turns.0
last_across f e (d ∷ es) x rest turns = last_across f d es x rest turns.1

last_turns : (f : ℕ → ℤ) (drops : List ℕ) (x : ℕ) (rest : List ℕ) → Alternates (map f (drops ++ x ∷ rest))
    → IfSome (last_or None drops) (λ l. AreOpposite (f x) (f l))
last_turns f [] x rest turns = tt
last_turns f (e ∷ es) x rest turns = last_across f e es x rest turns

-- one drop stands before the others
apart : (drops : List ℕ) (d : ℕ) (more : List ℕ) → (drops ++ d ∷ []) ++ more ≡ drops ++ d ∷ more
apart drops d more = append_assoc drops (d ∷ []) more

-- ---- the stations

module _ (ps : List Point) (root : ℕ) (toward : Way) where
  drop_stations-append : (from : Point) (xs ys : List ℕ) → drop_stations ps root toward from (xs ++ ys)
      ≡ drop_stations ps root toward from xs ++ drop_stations ps root toward (last_foot ps root toward from xs) ys
  drop_stations-append from [] ys = refl
  drop_stations-append from (x ∷ xs) ys = search (drop_stations-append (foot ps root toward x) xs ys)

  -- a code's stations begin with those of its beginning
  pub stations_begin : (xs ys : List ℕ) (side : Option ℕ) (tip : ℕ)
      → (rest : List Station) × (stations_of ps (Long root toward (xs ++ ys) side tip) ≡ first_stations ps root toward xs ++ rest)
  stations_begin xs ys side tip =
      let start = point_at ps root in
      let ends = end_stations ps root toward (last_foot ps root toward start (xs ++ ys)) side tip in
      let more = drop_stations ps root toward (last_foot ps root toward start xs) ys in
      let e = drop_stations-append start xs ys in
      let f = append_assoc (drop_stations ps root toward start xs) more ends in
      (more ++ ends, ap (λ (all : List Station). station root 0 0 ∷ (all ++ ends)) e ∙ ap (λ (all : List Station). station root 0 0 ∷ all) f)

  drop_stations-length : (from : Point) (ds : List ℕ) → length (drop_stations ps root toward from ds) ≡ length ds
  drop_stations-length from [] = refl
  drop_stations-length from (d ∷ ds) = ap suc (drop_stations-length (foot ps root toward d) ds)

  -- the last station of a beginning is that of its last member
  last_station : (s : Station) (from : Point) (ds : List ℕ)
      → (station_at (s ∷ drop_stations ps root toward from ds) (length ds)).member ≡ last_member s.member ds
  last_station s from [] = refl
  last_station s from (d ∷ ds) = last_station (station d (distance_between from (foot ps root toward d))
      (distance_between (foot ps root toward d) (point_at ps d))) (foot ps root toward d) ds

-- stations at the beginning keep their bottlenecks by themselves
pub keeps_first : (ps : List Point) (xs ys : List Station) → KeepsBottlenecks ps (xs ++ ys) → KeepsBottlenecks ps xs
keeps_first ps xs ys keeps b inside a before =
    let none = station 0 0 0 in
    let same : (c : ℕ) → c < length xs → station_at (xs ++ ys) c ≡ station_at xs c = λ c in'. get_or_append_left xs ys none c in' in
    let long = length-append xs ys in
    let all = keeps b (omega (arith, long)) a before in
    let at_a = same a (omega arith) in
    let at_b = same b inside in
    let move : (n : ℕ) → IsWithinBottleneck ps (station_at (xs ++ ys) a).member (station_at (xs ++ ys) b).member n
    → IsWithinBottleneck ps (station_at xs a).member (station_at xs b).member n =
    λ n within. subst (λ (s : Station). IsWithinBottleneck ps (station_at xs a).member s.member n) at_b
    (subst (λ (s : Station). IsWithinBottleneck ps s.member (station_at (xs ++ ys) b).member n) at_a within) in
    let goal = IsWithinBottleneck ps (station_at xs a).member (station_at xs b).member in
    record {
      first = subst (λ (s : Station). goal s.leg) at_a (move (station_at (xs ++ ys) a).leg all.first);
      last = subst (λ (s : Station). goal s.leg) at_b (move (station_at (xs ++ ys) b).leg all.last);
      spine = λ c over under. subst (λ (s : Station). goal s.before) (same c (omega arith))
          (move (station_at (xs ++ ys) c).before (all.spine c over under));
    }

-- ---- the law

-- Where a code with a further drop passes, that drop meets what is asked of it.
pub MayFollow-from_passing : (ps : List Point) (root : ℕ) (toward : Way) (drops : List ℕ) (d : ℕ) (code : TreeCode)
    → HasPrefix root toward (drops ++ d ∷ []) code → Passes ps code → MayFollow ps root toward drops d
MayFollow-from_passing ps root toward drops d code (more, side, tip, is) passing =
    let passes = subst (λ c. Passes ps c) is passing in
    let begun = drops ++ d ∷ [] in
    let shape = passes.form.shape in
    let P : ℕ → Type 0 = λ k. across_of ps root toward k ≢ pos 0 in
    let whole : (begun ++ more) ++ tip ∷ [] ≡ begun ++ (more ++ tip ∷ []) = append_assoc begun more (tip ∷ []) in
    let rises = subst (λ (ds : List ℕ). RisesFrom (pos 0) (map (along_of ps root toward) ds)) whole shape.forward in
    let turns = subst (λ (ds : List ℕ). Alternates (map (across_of ps root toward) ds)) (apart drops d more) shape.sides.in_turn in
    let off = All-first P begun more shape.sides.off in
    let begin = stations_begin ps root toward begun more side tip in
    let keeps = keeps_first ps (first_stations ps root toward begun) begin.0
    (subst (λ (ss : List Station). KeepsBottlenecks ps ss) begin.1 passes.bottlenecks) in
    let long = drop_stations-length ps root toward (point_at ps root) begun in
    let size = length-append drops (d ∷ []) in
    record {
      ahead = rises_first (along_of ps root toward) (pos 0) begun (more ++ tip ∷ []) rises;
      sides = record {
        off = All-first P drops (d ∷ []) off;
        in_turn = in_turn_first (across_of ps root toward) drops (d ∷ more) turns;
        last = λ beside. last_turns (across_of ps root toward) drops d more turns;
      };
      keeps = keeps (length drops + 1) (omega (arith, long, size));
    }

-- ---- one drop more

module _ (ps : List Point) (root : ℕ) (toward : Way) where
  last_foot-more : (from : Point) (ds : List ℕ) (d : ℕ) → last_foot ps root toward from (ds ++ d ∷ []) ≡ foot ps root toward d
  last_foot-more from [] d = refl
  last_foot-more from (x ∷ ds) d = last_foot-more (foot ps root toward x) ds d

last_member-more : (root : ℕ) (ds : List ℕ) (d : ℕ) → last_member root (ds ++ d ∷ []) ≡ d
last_member-more root [] d = refl
last_member-more root (x ∷ ds) d = last_member-more x ds d

pub IsLongerBy-made : (ps : List Point) (prefix : Prefix) (d : ℕ) (at p : Point) (before leg : ℕ)
    (copied stations : List Station) (kept drops : List ℕ)
    → IsPrefix ps prefix → length prefix.drops < 6 → d < length ps
    → at ≡ foot ps prefix.root prefix.toward d → before ≡ distance_between prefix.foot at → p ≡ point_at ps d
    → leg ≡ distance_between at p → copied ≡ prefix.stations
    → stations ≡ copied ++ record { member = d; before = before; leg = leg } ∷ []
    → kept ≡ prefix.drops → drops ≡ kept ++ d ∷ []
    → IsLongerBy ps prefix d record { root = prefix.root; toward = prefix.toward; drops = drops; last = d; foot = at; stations = stations }
IsLongerBy-made ps prefix d at p before leg copied stations kept drops is room inside foot_is before_is p_is leg_is copied_is stations_is kept_is drops_is =
    let root = prefix.root in
    let toward = prefix.toward in
    let old = prefix.drops in
    let start = point_at ps root in
    let drops_are : drops ≡ old ++ d ∷ [] = drops_is ∙ ap (λ (ds : List ℕ). ds ++ d ∷ []) kept_is in
    let size = length-append old (d ∷ []) in
    let x : Station = station d (distance_between (last_foot ps root toward start old) (foot ps root toward d))
    (distance_between (foot ps root toward d) (point_at ps d)) in
    let y : Station = record { member = d; before = before; leg = leg } in
    let from : prefix.foot ≡ last_foot ps root toward start old = is.foot_is in
    let before' : before ≡ distance_between (last_foot ps root toward start old) (foot ps root toward d) =
    before_is ∙ ap (λ (q : Point). distance_between q at) from ∙ ap (distance_between (last_foot ps root toward start old)) foot_is in
    let leg' : leg ≡ distance_between (foot ps root toward d) (point_at ps d) =
    leg_is ∙ ap (λ (q : Point). distance_between q p) foot_is ∙ ap (distance_between (foot ps root toward d)) p_is in
    let same : y ≡ x = ap (λ (n : ℕ). station d n leg) before' ∙ ap (station d (distance_between (last_foot ps root toward start old) (foot ps root toward d))) leg' in
    let grown = drop_stations-append ps root toward start old (d ∷ []) in
    let whole : first_stations ps root toward (old ++ d ∷ []) ≡ first_stations ps root toward old ++ x ∷ [] =
    ap (λ (rest : List Station). station root 0 0 ∷ rest) grown in
    let put : stations ≡ first_stations ps root toward old ++ x ∷ [] =
    stations_is ∙ ap (λ (ss : List Station). ss ++ y ∷ []) (copied_is ∙ is.stations_are)
    ∙ ap (λ (s : Station). first_stations ps root toward old ++ s ∷ []) same in
    record {
      is_prefix = record {
        root_in = is.root_in;
        drops_in = subst (λ (ds : List ℕ). All (λ k. k < length ps) ds) (sym drops_are) (All-push (λ k. k < length ps) old d is.drops_in inside);
        few = subst (λ (ds : List ℕ). length ds ≤ 6) (sym drops_are) (omega (arith, size, room));
        last_in = inside;
        last_is = sym (ap (last_member root) drops_are ∙ last_member-more root old d);
        foot_is = foot_is ∙ sym (ap (last_foot ps root toward start) drops_are ∙ last_foot-more ps root toward start old d);
        stations_are = put ∙ sym whole ∙ sym (ap (first_stations ps root toward) drops_are);
      };
      root = refl;
      toward = refl;
      drops = drops_are;
    }

-- what the test of a longer beginning's stations tells
pub keeps_longer : (ps : List Point) (prefix longer : Prefix) (d : ℕ) → IsLongerBy ps prefix d longer
    → longer.stations ≡ first_stations ps prefix.root prefix.toward (prefix.drops ++ d ∷ [])
keeps_longer ps prefix longer d by = search

-- ---- the tip

abbrev before_of : Station → ℕ
before_of s = s.before

-- the long leg from the last member to the corner is within their bottleneck
pub near_from_passing : (ps : List Point) (root : ℕ) (toward : Way) (drops : List ℕ) (side : Option ℕ) (tip : ℕ)
    → Passes ps (Long root toward drops side tip)
    → IsWithinBottleneck ps (last_member root drops) tip
    (distance_between (last_foot ps root toward (point_at ps root) drops) (foot ps root toward tip))
near_from_passing ps root toward drops None tip passes most bottleneck =
    let start = point_at ps root in
    let none = station 0 0 0 in
    let first = first_stations ps root toward drops in
    let ends = end_stations ps root toward (last_foot ps root toward start drops) None tip in
    let long = drop_stations-length ps root toward start drops in
    let m = length drops in
    let size = length-append first ends in
    let next : station_at (first ++ ends) (m + 1) ≡ station_at ends 0 =
    subst (λ (k : ℕ). station_at (first ++ ends) k ≡ station_at ends 0) (omega (arith, long)) (get_or-append-add first ends 0 none) in
    let here : (station_at (first ++ ends) m).member ≡ last_member root drops =
    ap member_of (get_or_append_left first ends none m (omega (arith, long))) ∙ last_station ps root toward (station root 0 0) start drops in
    let keeps = passes.bottlenecks (m + 1) (omega (arith, size, long)) m (omega arith) in
    let b = IsBottleneck-at ps _ _ _ _ most (sym here) (sym (ap member_of next)) bottleneck in
    omega (arith, keeps.spine (m + 1) (omega arith) (omega arith) most b, ap before_of next)
near_from_passing ps root toward drops (Some q) tip passes most bottleneck =
    let start = point_at ps root in
    let none = station 0 0 0 in
    let first = first_stations ps root toward drops in
    let ends = end_stations ps root toward (last_foot ps root toward start drops) (Some q) tip in
    let long = drop_stations-length ps root toward start drops in
    let m = length drops in
    let size = length-append first ends in
    let next : station_at (first ++ ends) (m + 1) ≡ station_at ends 0 =
    subst (λ (k : ℕ). station_at (first ++ ends) k ≡ station_at ends 0) (omega (arith, long)) (get_or-append-add first ends 0 none) in
    let last : station_at (first ++ ends) (m + 2) ≡ station_at ends 1 =
    subst (λ (k : ℕ). station_at (first ++ ends) k ≡ station_at ends 1) (omega (arith, long)) (get_or-append-add first ends 1 none) in
    let here : (station_at (first ++ ends) m).member ≡ last_member root drops =
    ap member_of (get_or_append_left first ends none m (omega (arith, long))) ∙ last_station ps root toward (station root 0 0) start drops in
    let keeps = passes.bottlenecks (m + 2) (omega (arith, size, long)) m (omega arith) in
    let b = IsBottleneck-at ps _ _ _ _ most (sym here) (sym (ap member_of last)) bottleneck in
    omega (arith, keeps.spine (m + 1) (omega arith) (omega arith) most b, ap before_of next)

-- ---- what fails in a beginning

pub failing_drop : FailingDropNeverPasses
failing_drop ps root toward drops d fails code kind passes = fails (MayFollow-from_passing ps root toward drops d code kind passes)

pub far_tip : FarTipNeverPasses
far_tip ps root toward drops tip far code (side, is) passes =
    far (near_from_passing ps root toward drops side tip (subst (λ c. Passes ps c) is passes))

-- ---- a beginning's stations

drop_stations-in : (P : ℕ → Type 0) (ps : List Point) (root : ℕ) (toward : Way) (from : Point) (ds : List ℕ) → All P ds
    → All (λ s. P s.member) (drop_stations ps root toward from ds)
drop_stations-in P ps root toward from [] all = All-nil (λ (s : Station). P s.member)
drop_stations-in P ps root toward from (d ∷ ds) all =
    grind (arith, All-cons, All-head P d ds all, drop_stations-in P ps root toward (foot ps root toward d) ds (All-tail P d ds all), All-tail P d ds all)

pub prefix_stations-in : (ps ts : List Point) (prefix : Prefix) (xs : List Station) → IsPrefix ps prefix → ps ≡ ts → xs ≡ prefix.stations
    → All (λ s. s.member < length ts) xs
prefix_stations-in ps ts prefix xs is same read =
    let P : ℕ → Type 0 = λ k. k < length ps in
    let all = All-cons (λ (s : Station). P s.member) (station prefix.root 0 0)
    (drop_stations ps prefix.root prefix.toward (point_at ps prefix.root) prefix.drops) is.root_in
    (drop_stations-in P ps prefix.root prefix.toward (point_at ps prefix.root) prefix.drops is.drops_in) in
    subst (λ (qs : List Point). All (λ s. s.member < length qs) xs) same
    (subst (λ (ss : List Station). All (λ s. s.member < length ps) ss) (sym (read ∙ is.stations_are)) all)

pub prefix_stations-length : (ps : List Point) (prefix : Prefix) (xs : List Station) → IsPrefix ps prefix → xs ≡ prefix.stations
    → length xs ≡ 1 + length prefix.drops
prefix_stations-length ps prefix xs is read = grind (arith, drop_stations-length)

pub keeps_moved : (ps ts : List Point) (xs ys : List Station) (m n : ℕ) → ps ≡ ts → xs ≡ ys → m ≡ n → KeepsUpTo ps ys n → KeepsUpTo ts xs m
keeps_moved ps ts xs ys m n same read count keeps =
    subst (λ (qs : List Point). KeepsUpTo qs xs m) same
    (subst (λ (ss : List Station). KeepsUpTo ps ss m) (sym read) (subst (λ (k : ℕ). KeepsUpTo ps ys k) (sym count) keeps))
