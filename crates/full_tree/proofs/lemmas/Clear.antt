-- What holds of each item of a list, and of the item at each place.
use Rattle.std.proofs.Common.{ℕ, ◌≡◌, ◌+◌, ◌<◌, List, length, subst, sym, ◌∙◌, arith}
use Rattle.std.specs.Prelude.{All, slice_get, Some}
use Rattle.std.proofs.lemmas.Option.{slice_get-get_or}
use Rattle.points_in.specs.declared.point.Point.{Point}
use Rattle.full_tree.specs.declared.station.Station.{Station}
use Rattle.full_tree.specs.declared.code.TreeCode.{TreeCode}
use Rattle.full_tree.specs.Code.{named_places}
use Rattle.full_tree.specs.Stations.{stations_of}
use Rattle.full_tree.specs.StationsLaws.{All-stations}
use Rattle.full_tree.specs.Passing.{KeepsBottlenecks}

some_same : {X : Type 0} (x y : X) → Some x ≡ Some y → x ≡ y
some_same x y e = cc

pub All-from_places : {X : Type 0} (P : X → Type 0) (xs : List X) (n : ℕ) → n ≡ length xs
    → ((k : ℕ) (x : X) → k < n → slice_get xs k ≡ Some x → P x) → All P xs
All-from_places P xs n is each k d inside = grind (arith, slice_get-get_or)

-- one place more
pub places_more : {X : Type 0} (P : X → Type 0) (xs : List X) (n : ℕ) (y : X)
    → ((k : ℕ) (x : X) → k < n → slice_get xs k ≡ Some x → P x) → slice_get xs n ≡ Some y → P y
    → (k : ℕ) (x : X) → k < n + 1 → slice_get xs k ≡ Some x → P x
places_more {X} P xs n y each at here k x inside = grind arith

-- the stations that were made for a code
module _ (ps ts : List Point) (code : TreeCode) (xs ys : List Station) (same : ts ≡ ps) (read : xs ≡ ys) (made : ys ≡ stations_of ps code) where
  are : xs ≡ stations_of ps code
  are = read ∙ made

  pub stations_within : All (λ k. k < length ps) (named_places code) → All (λ s. s.member < length ts) xs
  stations_within all =
      let within = All-stations (λ k. k < length ps) ps code all in
      subst (λ (zs : List Station). All (λ s. s.member < length ts) zs) (sym are)
      (subst (λ (qs : List Point). All (λ s. s.member < length qs) (stations_of ps code)) (sym same) within)

  pub keeps_there : KeepsBottlenecks ps (stations_of ps code) → KeepsBottlenecks ts xs
  keeps_there keeps = subst (λ (zs : List Station). KeepsBottlenecks ts zs) (sym are)
      (subst (λ (qs : List Point). KeepsBottlenecks qs (stations_of ps code)) (sym same) keeps)

  pub keeps_here : KeepsBottlenecks ts xs → KeepsBottlenecks ps (stations_of ps code)
  keeps_here keeps = subst (λ (qs : List Point). KeepsBottlenecks qs (stations_of ps code)) same
      (subst (λ (zs : List Station). KeepsBottlenecks ts zs) are keeps)
