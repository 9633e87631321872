-- What choices say of the sets that respect them, and of searches that go on or end there.
use Rattle.std.proofs.Common.{ℕ, suc, ◌≡◌, Bool, true, false, Option, Some, None, List, [], ◌∷◌, length, refl, ap, sym, subst, ◌∙◌, arith}
use Rattle.std.specs.Option.{option_map}
use Rattle.std.proofs.lemmas.Option.{slice_get-map}
use Rattle.std.proofs.lemmas.List.{length-map}
use Rattle.concatenation.specs.ChoiceLaws.{remaining_of-holds}
use Rattle.full_tree.specs.declared.code.Tree.{Tree}
use Rattle.concatenation.specs.declared.choice.Choice.{Choice}
use Rattle.concatenation.specs.declared.choice.Choice.TheVariants.{Open, Taken, LeftOut}
use Rattle.concatenation.specs.Concatenation.{IsConcatenation}
use Rattle.concatenation.specs.SetLaws.{IsWithin, MoreTreesJoin}
use Rattle.concatenation.specs.Choices.{is_taken, is_left, taken_of, remaining_of, Respects, IsLeastUnder, AreRemainingJoining}
use Rattle.concatenation.specs.Trails.{CanGoOn, IsNoBetter, IsOpenPlace}

-- the choice behind a flag
choice_of : (flag_of : Choice → Bool) (found : Option Choice) (flag : Bool) → option_map flag_of found ≡ Some flag
    → (choice : Choice) × (found ≡ Some choice) × (flag_of choice ≡ flag)
choice_of flag_of None flag at = (cc)
choice_of flag_of (Some choice) flag at = let same : flag_of choice ≡ flag = (cc) in (choice, refl, same)

taken_only : (choice : Choice) → is_taken choice ≡ true → choice ≡ Taken
taken_only Open is = (cc)
taken_only Taken is = refl
taken_only LeftOut is = (cc)

-- a set that respects choices holds the taken trees
pub taken_within : (choices : List Choice) (set : List Bool) → Respects choices set → IsWithin (taken_of choices) set
taken_within choices set respects = grind (arith, choice_of, slice_get-map, taken_only)

-- no set respects choices whose remaining trees don't join
pub none_respects : (n : ℕ) (trees : List Tree) (choices : List Choice) (total : ℕ) → MoreTreesJoin → length choices ≡ length trees
    → ¬ AreRemainingJoining n trees choices → IsNoBetter n trees total choices × IsLeastUnder n trees choices total
none_respects n trees choices total more size apart =
    let length_is : length (remaining_of choices) ≡ length trees = length-map choices is_left ∙ size in (
      λ joins. absurd (apart (more n trees (taken_of choices) (remaining_of choices) (grind (arith, choice_of, slice_get-map, taken_only)) length_is joins)),
      λ set joins respects. absurd (apart (more n trees set (remaining_of choices)
          (remaining_of-holds choices set (joins.size ∙ sym size) respects) length_is joins)),
    )

-- where a search can go on, some place is open
none_open : (choices : List Choice) → ((k : ℕ) → ¬ IsOpenPlace choices k) → remaining_of choices ≡ taken_of choices
none_open [] none = refl
none_open (Open ∷ choices) none = absurd (none 0 refl)
none_open (Taken ∷ choices) none = ap (λ rest. true ∷ rest) (none_open choices (λ k is. none (suc k) is))
none_open (LeftOut ∷ choices) none = ap (λ rest. false ∷ rest) (none_open choices (λ k is. none (suc k) is))

pub some_open : (n : ℕ) (trees : List Tree) (choices : List Choice) → CanGoOn n trees choices → ((k : ℕ) → ¬ IsOpenPlace choices k) → ⊥
some_open n trees choices can none = can.taken (subst (IsConcatenation n trees) (none_open choices none) can.remaining)
