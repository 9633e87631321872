-- A tree as it is kept while it is judged.
use Rattle.std.specs.Prelude.{ℕ, ◌≡◌, ◌<◌, ◌≤◌, ◌⊎◌, List, length, Option, None, Some}
use Rattle.std.specs.List.{AllByRecursion}
use Rattle.points_in.specs.declared.point.Point.{Point}
use Rattle.full_tree.specs.declared.code.TreeCode.{TreeCode}
use Rattle.full_tree.specs.Form.{IsInForm}

-- A place as it is kept: in 8 bits, where no place of 50 points gets lost.
abbrev pub StandsFor : ℕ → ℕ → Type 0
StandsFor kept k = (k < 50) ⊎ (kept < 50) → kept ≡ k

-- a side as it is kept
abbrev pub StandsForSide : Option ℕ → Option ℕ → Type 0
StandsForSide None None = Unit {0}
StandsForSide (Some kept) (Some k) = StandsFor kept k
StandsForSide _ _ = ⊥

-- Drops as they are kept: at most 8 of them, where no drops of a code in form get lost.
pub record StandForDrops (kept ds : List ℕ) : Type 0 where
  pub few : length kept ≤ 8
  pub full : length kept < 8 → length kept ≡ length ds
  pub many : 8 ≤ length kept → 8 ≤ length ds
  pub spelled : length ds < 8 → AllByRecursion (λ d. d < 50) ds → kept ≡ ds
  pub held : length kept < 8 → AllByRecursion (λ d. d < 50) kept → kept ≡ ds

-- a code as it is kept: where one of the two is in form, they are the same
abbrev pub StandsForCode : TreeCode → TreeCode → Type 0
StandsForCode kept code =
    (ps : List Point) → length ps ≤ 50 → IsInForm ps code ⊎ IsInForm ps kept → kept ≡ code
