-- The walk back from a station over the ones before it, with the greatest stretch so far.
use Rattle.std.proofs.Common.{ℕ, ◌≡◌, ◌+◌, ◌-◌, ◌<◌, ◌≤◌, max, List, arith, sym, subst, ⊎_elim}
use Rattle.std.proofs.lemmas.Bool.{cases_eq}
use Rattle.full_tree.specs.PassingLaws.{within-from}
use Rattle.points_in.specs.declared.point.Point.{Point}
use Rattle.spanning.specs.Bottleneck.{IsBottleneck}
use Rattle.full_tree.specs.declared.station.Station.{Station}
use Rattle.full_tree.specs.Stations.{station_at}
use Rattle.full_tree.specs.Passing.{KeepsBetween, KeepsUpTo}

-- the greatest of the last station's leg and of the stretches behind the first station
pub record IsMost (stations : List Station) (first last greatest : ℕ) : Type 0 where
  pub leg : (station_at stations last).leg ≤ greatest
  pub spine : (c : ℕ) → first < c → c ≤ last → (station_at stations c).before ≤ greatest
  pub least : (most : ℕ) → (station_at stations last).leg ≤ most
      → ((c : ℕ) → first < c → c ≤ last → (station_at stations c).before ≤ most) → greatest ≤ most

pub record HasGoneBack (ps : List Point) (stations : List Station) (first last greatest : ℕ) : Type 0 where
  pub within : first ≤ last
  pub most : IsMost stations first last greatest
  pub kept : (a : ℕ) → first ≤ a → a < last → KeepsBetween ps stations a last

pub IsMost-more : (stations : List Station) (first last greatest : ℕ) → IsMost stations (first + 1) last greatest → first + 1 ≤ last
    → IsMost stations first last (max greatest (station_at stations (first + 1)).before)
IsMost-more stations first last greatest m inside =
    let before = (station_at stations (first + 1)).before in
    record {
      leg = omega (arith, m.leg);
      spine = λ c over under. ⊎_elim
          (λ (here : c ≡ first + 1). subst (λ k. (station_at stations k).before ≤ max greatest before) (sym here) (omega arith))
          (λ (apart : c ≡ first + 1 → ⊥). omega (arith, m.spine c (omega arith) under))
          (cases_eq c (first + 1));
      least = λ most leg spine. omega (arith, m.least most leg (λ c over under. spine c (omega arith) under), spine (first + 1) (omega arith) inside);
    }

-- the test of two stations
pub KeepsBetween-from_test : (ps : List Point) (stations : List Station) (a b greatest most : ℕ)
    → IsBottleneck ps (station_at stations a).member (station_at stations b).member most
    → IsMost stations a b greatest → max greatest (station_at stations a).leg ≤ most → KeepsBetween ps stations a b
KeepsBetween-from_test ps stations a b greatest most is m test =
    let i = (station_at stations a).member in
    let j = (station_at stations b).member in
    record {
      first = within-from ps i j most _ is (omega arith);
      last = within-from ps i j most _ is (omega (arith, m.leg));
      spine = λ c over under. within-from ps i j most _ is (omega (arith, m.spine c over under));
    }

pub test-from_KeepsBetween : (ps : List Point) (stations : List Station) (a b greatest most : ℕ)
    → IsBottleneck ps (station_at stations a).member (station_at stations b).member most
    → IsMost stations a b greatest → KeepsBetween ps stations a b → max greatest (station_at stations a).leg ≤ most
test-from_KeepsBetween ps stations a b greatest most is m keeps =
    omega (arith, keeps.first most is, m.least most (keeps.last most is) (λ c over under. keeps.spine c over under most is))

-- one station further back
pub HasGoneBack-more : (ps : List Point) (stations : List Station) (first last greatest most : ℕ)
    → HasGoneBack ps stations (first + 1) last greatest
    → IsBottleneck ps (station_at stations first).member (station_at stations last).member most
    → max (max greatest (station_at stations (first + 1)).before) (station_at stations first).leg ≤ most
    → HasGoneBack ps stations first last (max greatest (station_at stations (first + 1)).before)
HasGoneBack-more ps stations first last greatest most back is test =
    let m = IsMost-more stations first last greatest back.most back.within in
    record {
      within = omega (arith, back.within);
      most = m;
      kept = λ a from under. ⊎_elim
          (λ (here : a ≡ first). subst (λ k. KeepsBetween ps stations k last) (sym here)
          (KeepsBetween-from_test ps stations first last _ most is m test))
          (λ (apart : a ≡ first → ⊥). back.kept a (omega arith) under)
          (cases_eq a first);
    }

-- .. as a loop goes back, with what it computes
pub HasGoneBack-down : (ps : List Point) (stations : List Station) (first last greatest more most : ℕ) → 0 < first
    → HasGoneBack ps stations first last greatest → more ≡ max greatest (station_at stations first).before
    → IsBottleneck ps (station_at stations (first - 1)).member (station_at stations last).member most
    → max more (station_at stations (first - 1)).leg ≤ most
    → HasGoneBack ps stations (first - 1) last more
HasGoneBack-down ps stations first last greatest more most some back are is test =
    let e : first ≡ (first - 1) + 1 = omega arith in
    let greater = λ (k : ℕ). max greatest (station_at stations k).before in
    let back' = subst (λ k. HasGoneBack ps stations k last greatest) e back in
    let are' = subst (λ k. more ≡ greater k) e are in
    let test' = subst (λ n. max n (station_at stations (first - 1)).leg ≤ most) are' test in
    subst (λ n. HasGoneBack ps stations (first - 1) last n) (sym are')
    (HasGoneBack-more ps stations (first - 1) last greatest most back' is test')

-- .. and where the test fails, the two stations don't keep their bottleneck
pub HasGoneBack-fails : (ps : List Point) (stations : List Station) (first last greatest more most : ℕ) → 0 < first
    → HasGoneBack ps stations first last greatest → more ≡ max greatest (station_at stations first).before
    → IsBottleneck ps (station_at stations (first - 1)).member (station_at stations last).member most
    → KeepsUpTo ps stations last → max more (station_at stations (first - 1)).leg ≤ most
HasGoneBack-fails ps stations first last greatest more most some back are is keeps =
    let e : first ≡ (first - 1) + 1 = omega arith in
    let greater = λ (k : ℕ). max greatest (station_at stations k).before in
    let back' = subst (λ k. HasGoneBack ps stations k last greatest) e back in
    let are' = subst (λ k. more ≡ greater k) e are in
    subst (λ n. max n (station_at stations (first - 1)).leg ≤ most) (sym are')
    (test-from_KeepsBetween ps stations (first - 1) last _ most is
    (IsMost-more stations (first - 1) last greatest back'.most back'.within)
    (keeps (first - 1) (omega (arith, back.within))))
