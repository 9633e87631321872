-- What a long code in form says of its parts.
use Rattle.std.specs.Prelude.{ℕ, ◌≡◌, ◌+◌, ◌<◌, ◌≤◌, List, [], ◌∷◌, ◌++◌, length, All, Option, option_to_list}
use Rattle.std.proofs.Common.{subst, sym, arith, length-append}
use Rattle.std.proofs.lemmas.List.Elements.{All-head, All-tail}
use Rattle.lists.specs.ListLaws.{All-first, All-second}
use Rattle.points_in.specs.declared.point.Point.{Point}
use Rattle.full_tree.specs.declared.way.Way.{Way}
use Rattle.full_tree.specs.declared.way.Way.TheVariants.{East}
use Rattle.full_tree.specs.declared.code.TreeCode.{TreeCode}
use Rattle.full_tree.specs.declared.code.TreeCode.TheVariants.{Long}
use Rattle.full_tree.specs.Code.{named_places}
use Rattle.full_tree.specs.Form.{IsInForm}

-- the places that a long code names are places of the points, and no more than 8
pub record NamesFew (ps : List Point) (root : ℕ) (drops : List ℕ) (side : Option ℕ) (tip : ℕ) : Type 0 where
  pub root_in : root < length ps
  pub drops_in : All (λ k. k < length ps) drops
  pub side_in : All (λ k. k < length ps) (option_to_list side)
  pub tip_in : tip < length ps
  pub count : length (named_places (Long root East drops side tip)) ≡ length drops + length (option_to_list side) + 2
  pub few : length drops + length (option_to_list side) ≤ 6

pub long_names_few : (ps : List Point) (root : ℕ) (toward : Way) (drops : List ℕ) (side : Option ℕ) (tip : ℕ)
    → IsInForm ps (Long root toward drops side tip) → NamesFew ps root drops side tip
long_names_few ps root toward drops side tip form =
    let P : ℕ → Type 0 = λ k. k < length ps in
    let all = form.terminals in
    let hung = drops ++ option_to_list side in
    let rest = All-tail P root (hung ++ tip ∷ []) all in
    let inner = All-first P hung (tip ∷ []) rest in
    let a = length-append hung (tip ∷ []) in
    let b = length-append drops (option_to_list side) in
    let few = form.members.few in
    record {
      root_in = All-head P root (hung ++ tip ∷ []) all;
      drops_in = All-first P drops (option_to_list side) inner;
      side_in = All-second P drops (option_to_list side) inner;
      tip_in = All-head P tip [] (All-second P hung (tip ∷ []) rest);
      count = omega (arith, a, b);
      few = omega (arith, a, b, few);
    }

-- .. where the code and its parts are told by equations
pub long_names_few-at : (ps qs : List Point) (code : TreeCode) (root : ℕ) (toward : Way) (drops ds : List ℕ)
    (side : Option ℕ) (tip : ℕ)
    → code ≡ Long root toward drops side tip → qs ≡ ps → ds ≡ drops → IsInForm ps code → NamesFew qs root ds side tip
long_names_few-at ps qs code root toward drops ds side tip is at e form =
    let there = subst (λ x. IsInForm x code) (sym at) form in
    let long = subst (λ x. IsInForm qs x) is there in
    subst (λ x. NamesFew qs root x side tip) (sym e) (long_names_few qs root toward drops side tip long)
