-- A trail that splits only on open trees has fewer splits than there are ways to decide them all.
use Rattle.std.proofs.Common.{ℕ, zero, suc, ◌≡◌, ◌+◌, ◌^◌, ◌<◌, ◌≤◌, inl, inr, List, [], ◌∷◌, length, set, replicate, arith, refl, ap, subst}
use Rattle.std.proofs.lemmas.Nat.{pow_pos, pow_below}
use Rattle.std.proofs.Math.Nat.{pow-suc}
use Rattle.full_tree.specs.declared.code.Tree.{Tree}
use Rattle.concatenation.specs.declared.choice.Choice.{Choice}
use Rattle.concatenation.specs.declared.choice.Choice.TheVariants.{Open, Taken, LeftOut}
use Rattle.concatenation.specs.Concatenation.{IsConcatenation}
use Rattle.concatenation.specs.Choices.{taken_of, remaining_of}
use Rattle.concatenation.specs.Trails.{Trail, End, Split, splits_of, no_choices, SomeEnd, AllSplits, IsOpenPlace, IsOpenEnd}
use Rattle.concatenation.specs.TrailLaws.{SpentTrailsAreShort}

-- one for a tree that is open
abbrev is_open_count : Choice → ℕ
is_open_count Open = 1
is_open_count Taken = 0
is_open_count LeftOut = 0

-- the number of open trees
abbrev open_count : List Choice → ℕ
open_count [] = 0
open_count (choice ∷ choices) = is_open_count choice + open_count choices

open_count-no_choices : (m : ℕ) → open_count (replicate m Open) ≡ m
open_count-no_choices zero = refl
open_count-no_choices (suc m) = omega (arith, open_count-no_choices m)

-- an open tree that is decided is one open tree less
open_count-set : (choices : List Choice) (place : ℕ) (choice : Choice) → IsOpenPlace choices place → is_open_count choice ≡ 0 →
    open_count choices ≡ 1 + open_count (set choices place choice)
open_count-set [] place choice open_place decided = cc
open_count-set (Open ∷ choices) zero choice open_place decided = omega arith
open_count-set (Taken ∷ choices) zero choice open_place decided = cc
open_count-set (LeftOut ∷ choices) zero choice open_place decided = cc
open_count-set (first ∷ choices) (suc place) choice open_place decided =
    omega (arith, open_count-set choices place choice open_place decided)

-- where no tree is open, those that are left are those that are taken
remaining_of-taken_of : (choices : List Choice) → open_count choices ≡ 0 → remaining_of choices ≡ taken_of choices
remaining_of-taken_of [] none = refl
remaining_of-taken_of (Open ∷ choices) none = absurd (omega arith)
remaining_of-taken_of (Taken ∷ choices) none = let rest = remaining_of-taken_of choices (omega arith) in cc
remaining_of-taken_of (LeftOut ∷ choices) none = let rest = remaining_of-taken_of choices (omega arith) in cc

-- so an open end has an open tree
open_end_has_open : (n : ℕ) (trees : List Tree) (total : ℕ) (choices : List Choice) → IsOpenEnd n trees total choices →
    0 < open_count choices
open_end_has_open n trees total choices open_end = cases (open_count choices) refl
  where
    cases : (m : ℕ) → open_count choices ≡ m → 0 < m
    cases zero none = absurd (open_end.can_go_on.taken
        (subst (IsConcatenation n trees) (remaining_of-taken_of choices none) open_end.can_go_on.remaining))
    cases (suc m) some = omega arith

-- with one more to decide there are twice as many ways
doubled : (more few : ℕ) → more ≡ 1 + few → 2 ^ more ≡ 2 ^ few + 2 ^ few
doubled more few one_more =
    let same : more ≡ suc few = omega arith in omega (arith, ap (λ m. 2 ^ m) same, pow-suc 2 few)

-- each split decides an open tree
splits_of-le : (choices : List Choice) (trail : Trail) → AllSplits IsOpenPlace choices trail →
    1 + splits_of trail ≤ 2 ^ open_count choices
splits_of-le choices End places = omega (arith, pow_pos (open_count choices))
splits_of-le choices (Split place without with_it) places =
    grind (
      arith,
      doubled,
      open_count-set choices place LeftOut places.0 refl,
      open_count-set choices place Taken places.0 refl,
      splits_of-le (set choices place LeftOut) without places.1,
      splits_of-le (set choices place Taken) with_it places.2,
    )

-- .. and where an end is open, some tree is still open there
splits_of-lt : (n : ℕ) (trees : List Tree) (total : ℕ) (choices : List Choice) (trail : Trail) →
    AllSplits IsOpenPlace choices trail → SomeEnd (IsOpenEnd n trees total) choices trail →
    1 + splits_of trail < 2 ^ open_count choices
splits_of-lt n trees total choices End places open_end =
    omega (arith, pow_below 0 (open_count choices) (open_end_has_open n trees total choices open_end))
splits_of-lt n trees total choices (Split place without with_it) places open_end =
    let left = doubled _ _ (open_count-set choices place LeftOut places.0 refl) in
    let taken = doubled _ _ (open_count-set choices place Taken places.0 refl) in
    elim open_end [
      | inl first ↦ omega (
        arith,
        left,
        taken,
        splits_of-lt n trees total (set choices place LeftOut) without places.1 first,
        splits_of-le (set choices place Taken) with_it places.2,
      )
      | inr second ↦ omega (
        arith,
        left,
        taken,
        splits_of-le (set choices place LeftOut) without places.1,
        splits_of-lt n trees total (set choices place Taken) with_it places.2 second,
      )
    ]

pub spent_trail_lem : SpentTrailsAreShort
spent_trail_lem n trees total trail spent =
    grind (arith, open_count-no_choices (length trees), splits_of-lt n trees total (no_choices trees) trail spent.places spent.open_end)
