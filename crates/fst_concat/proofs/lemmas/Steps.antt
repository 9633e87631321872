-- What steps of a search do to what they and the pending choices spell.
use Rattle.std.specs.Prelude.{slice_set}
use Rattle.std.proofs.Common.{ℕ, suc, ◌≡◌, ◌+◌, ◌-◌, ◌^◌, ◌<◌, ◌≤◌, ◌⊎◌, List, [], ◌∷◌, ◌++◌, refl, ap, sym, subst, ◌∙◌, inl, inr, ⊎_elim, arith}
use Rattle.full_tree.specs.declared.code.Tree.{Tree}
use Rattle.concatenation.specs.declared.choice.Choice.{Choice}
use Rattle.concatenation.specs.declared.choice.Choice.TheVariants.{Taken, LeftOut}
use Rattle.concatenation.specs.Choices.{IsLeastUnder}
use Rattle.concatenation.specs.Trails.{Trail, End, Split, splits_of, no_choices, AllEnds, SomeEnd, IsOpenPlace, CanGoOn, IsBoundedTrail, IsSpentTrail}
use Rattle.fst_concat.specs.declared.trail.Step.{Step}
use Rattle.fst_concat.specs.declared.trail.Step.TheVariants.{Close, Fork}
use Rattle.fst_concat.specs.TrailCode.{split_over, first_of_trails}
use Rattle.fst_concat.specs.Steps.{unwind, trail_of}
use Rattle.fst_concat.specs.UnderWay.{EndsWell, IsGood, IsOpenUpTo, HasOpenEnd, Completes, CompletesAll}

-- the steps of two lists
pub unwind-append : (steps more : List Step) (trails : List Trail) → unwind (steps ++ more) trails ≡ unwind steps (unwind more trails)
unwind-append [] more trails = refl
unwind-append (Close ∷ steps) more trails = ap (λ list. End ∷ list) (unwind-append steps more trails)
unwind-append (Fork place ∷ steps) more trails = ap (split_over place) (unwind-append steps more trails)

-- what holds at each end, where another fact follows from it
pub AllEnds-weaker : (P Q : List Choice → Type 0) → ((choices : List Choice) → P choices → Q choices) → (choices : List Choice) (trail : Trail)
    → AllEnds P choices trail → AllEnds Q choices trail
AllEnds-weaker P Q weaker choices End holds = weaker choices holds
AllEnds-weaker P Q weaker choices (Split place without with_it) holds =
    (AllEnds-weaker P Q weaker (slice_set choices place LeftOut) without holds.0, AllEnds-weaker P Q weaker (slice_set choices place Taken) with_it holds.1)

-- .. and at some end
pub SomeEnd-weaker : (P Q : List Choice → Type 0) → ((choices : List Choice) → P choices → Q choices) → (choices : List Choice) (trail : Trail)
    → SomeEnd P choices trail → SomeEnd Q choices trail
SomeEnd-weaker P Q weaker choices End holds = weaker choices holds
SomeEnd-weaker P Q weaker choices (Split place without with_it) holds =
    ⊎_elim (λ left. inl (SomeEnd-weaker P Q weaker (slice_set choices place LeftOut) without left)) (λ right. inr (SomeEnd-weaker P Q weaker (slice_set choices place Taken) with_it right)) holds

-- an end may be left for a smaller best total and a smaller open one
pub EndsWell-later : (n : ℕ) (trees : List Tree) (total low later_total later_low : ℕ) (choices : List Choice)
    → later_total ≤ total → later_low ≤ low → EndsWell n trees total low choices → EndsWell n trees later_total later_low choices
EndsWell-later n trees total low later_total later_low choices lower_total lower_low well = grind arith

-- an end is left
pub CompletesAll-close : (n : ℕ) (trees : List Tree) (total later_total low later_low used : ℕ) (steps : List Step)
    (choices : List Choice) (pending : List (List Choice)) → CompletesAll n trees total low used steps (choices ∷ pending)
    → later_total ≤ total → later_low ≤ low → EndsWell n trees later_total later_low choices
    → (later_low ≡ low) ⊎ IsOpenUpTo n trees later_low choices
    → CompletesAll n trees later_total later_low used (steps ++ Close ∷ []) pending
CompletesAll-close n trees total later_total low later_low used steps choices pending all lower_total lower_low well opened = λ trails same.
    let before : Completes n trees total low used steps (choices ∷ pending) (End ∷ trails) = all (End ∷ trails) (ap suc same) in
    record {
      trail = before.trail;
      one = unwind-append steps (Close ∷ []) trails ∙ before.one;
      count = omega (arith, before.count);
      good = λ last_total last_low below_total below_low good. before.good last_total last_low (omega arith) (omega arith) (
        record {
          places = tt;
          splits = tt;
          ends = EndsWell-later n trees later_total later_low last_total last_low choices below_total below_low well;
        },
        good,
      );
      opens = λ open_total one. before.opens open_total (inr one);
      found = λ below. ⊎_elim
          (λ is. let Open_end : ℕ → Type 0 = λ v. HasOpenEnd n trees v (no_choices trees) before.trail in
          subst Open_end (sym is) (before.found (omega arith)))
          (λ here. before.opens later_low (inl here)) opened;
    }

-- a split is opened
pub CompletesAll-fork : (n : ℕ) (trees : List Tree) (total later_total low used : ℕ) (steps : List Step)
    (choices : List Choice) (pending : List (List Choice)) (place : ℕ)
    → CompletesAll n trees total low used steps (choices ∷ pending)
    → later_total ≤ total → IsOpenPlace choices place → CanGoOn n trees choices
    → CompletesAll n trees later_total low (used + 1) (steps ++ Fork place ∷ [])
    (slice_set choices place Taken ∷ slice_set choices place LeftOut ∷ pending)
CompletesAll-fork n trees total later_total low used steps choices pending place all lower_total is_open can [] same = absurd (omega (arith, same))
CompletesAll-fork n trees total later_total low used steps choices pending place all lower_total is_open can (with_it ∷ []) same = absurd (omega (arith, same))
CompletesAll-fork n trees total later_total low used steps choices pending place all lower_total is_open can (with_it ∷ without ∷ trails) same =
    let before : Completes n trees total low used steps (choices ∷ pending) (Split place without with_it ∷ trails) =
    all (Split place without with_it ∷ trails) (omega (arith, same)) in
    record {
      trail = before.trail;
      one = unwind-append steps (Fork place ∷ []) (with_it ∷ without ∷ trails) ∙ before.one;
      count = omega (arith, before.count);
      good = λ last_total last_low below_total below_low good. before.good last_total last_low (omega arith) below_low (
        record {
          places = (is_open, good.1.0.places, good.0.places);
          splits = (can, good.1.0.splits, good.0.splits);
          ends = (good.1.0.ends, good.0.ends);
        },
        good.1.1,
      );
      opens = λ open_total one. before.opens open_total
          (⊎_elim (λ taken. inl (inr taken)) (λ rest. ⊎_elim (λ left. inl (inl left)) (λ others. inr others) rest) one);
      found = λ below. before.found below;
    }

-- a search begins
pub CompletesAll-start : (n : ℕ) (trees : List Tree) (total low : ℕ) → 2 ^ 128 - 1 ≤ low
    → CompletesAll n trees total low 0 [] (no_choices trees ∷ [])
CompletesAll-start n trees total low none [] same = absurd (omega (arith, same))
CompletesAll-start n trees total low none (trail ∷ []) same = grind arith
CompletesAll-start n trees total low none (trail ∷ other ∷ trails) same = absurd (omega (arith, same))

-- the trail of a search that is over
pub over_trail : (n : ℕ) (trees : List Tree) (total low used : ℕ) (steps : List Step) → CompletesAll n trees total low used steps []
    → Completes n trees total low used steps [] []
over_trail n trees total low used steps all = all [] refl

-- .. is the one that the steps spell
pub over-is : (n : ℕ) (trees : List Tree) (total low used : ℕ) (steps : List Step)
    (over : Completes n trees total low used steps [] []) → trail_of steps ≡ over.trail
over-is n trees total low used steps over = ap first_of_trails over.one

-- .. with as many splits as were used
pub over-splits : (n : ℕ) (trees : List Tree) (total low used : ℕ) (steps : List Step)
    → Completes n trees total low used steps [] [] → used ≡ splits_of (trail_of steps)
over-splits n trees total low used steps over = omega (arith, over.count, ap splits_of (over-is n trees total low used steps over))

-- .. is bounded by the best total where no end was left open below it
pub over-bounded : (n : ℕ) (trees : List Tree) (total low used : ℕ) (steps : List Step)
    (over : Completes n trees total low used steps [] []) → total ≤ low → IsBoundedTrail n trees total over.trail
over-bounded n trees total low used steps over high =
    let good : IsGood n trees total low (no_choices trees) over.trail = over.good total low (omega arith) (omega arith) tt in
    record {
      places = good.places;
      ends = AllEnds-weaker (EndsWell n trees total low) (λ choices. IsLeastUnder n trees choices total)
          (λ choices well set joins respects. omega (arith, well.least set joins respects))
          (no_choices trees) over.trail good.ends;
    }

-- .. and else it is spent
pub over-spent : (n : ℕ) (trees : List Tree) (total low used : ℕ) (steps : List Step)
    → Completes n trees total low used steps [] [] → low < total → total < 2 ^ 128 → IsSpentTrail n trees total (trail_of steps)
over-spent n trees total low used steps over below small =
    grind (arith, over-is n trees total low used steps over, AllEnds-weaker, SomeEnd-weaker)
