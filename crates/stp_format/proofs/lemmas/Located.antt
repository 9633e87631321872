-- Whether a point is among others, and what adding it gives.
use Rattle.std.specs.Prelude.{ℕ, zero, suc, ◌≡◌, ◌≢◌, ◌++◌, true, false, List, [], ◌∷◌, length, Contains, Ok, Err}
use Rattle.std.specs.List.{list_any}
use Rattle.std.proofs.Common.{arith, refl, sym, inl, inr}
use Rattle.std.proofs.lemmas.Bool.{cases_Bool, ne_eqb}
use Rattle.std.proofs.lemmas.Map.Views.{Contains-from_any}
use Rattle.points_in.specs.declared.point.Point.{Point}
use Rattle.points_in.specs.Terminals.{same_point}
use Rattle.points_in.specs.PointLaws.{same_point_decides}
use Rattle.stp_format.specs.declared.fault.StpFault.TheVariants.{TooManyPoints}
use Rattle.stp_format.specs.Located.{with_point}

-- a point of a list is found
contained_found : (p : Point) (ps : List Point) → Contains ps p → list_any (same_point p) ps ≡ true
contained_found p [] at = absurd (omega (arith, at.1))
contained_found p (q ∷ ps) (zero, inside, is) =
    let same : same_point p q ≡ true = (same_point_decides p q).1 (sym is) in
    rw same refl
contained_found p (q ∷ ps) (suc k, inside, is) =
    elim (cases_Bool (same_point p q)) [
      | inl same ↦ rw same refl
      | inr other ↦ rw other (contained_found p ps (k, omega arith, is))
    ]

-- and another one is not
absent_not_found : (p : Point) (ps : List Point) → ¬ Contains ps p → list_any (same_point p) ps ≡ false
absent_not_found p ps absent = elim (cases_Bool (list_any (same_point p) ps)) [
  | inl found ↦ absurd (absent (Contains-from_any (λ x y. (same_point_decides x y).0) p ps found))
  | inr none ↦ none
]

-- a repeated point, the 51st one, and a further one
pub with_repeat : (node : ℕ) (ps : List Point) (p : Point) → Contains ps p → with_point node ps p ≡ Ok ps
with_repeat node ps p found = let is = contained_found p ps found in rw is refl

pub with_too_many : (node : ℕ) (ps : List Point) (p : Point) → ¬ Contains ps p → length ps ≡ 50 → with_point node ps p ≡ Err (TooManyPoints node)
with_too_many node ps p absent full = let is = absent_not_found p ps absent in rw (is, full) refl

pub with_new : (node : ℕ) (ps : List Point) (p : Point) → ¬ Contains ps p → length ps ≢ 50 → with_point node ps p ≡ Ok (ps ++ p ∷ [])
with_new node ps p absent room = grind (arith, absent_not_found p ps absent, ne_eqb (length ps) 50 room)
