-- What choices say of the sets that respect them.
use Rattle.std.specs.Prelude.{◌≡◌, Bool, true, List, length, slice_get, Some}
use Rattle.std.specs.Option.{option_map}
use Rattle.std.proofs.Common.{arith, ap, ◌∙◌}
use Rattle.std.proofs.lemmas.Option.{slice_get-map, slice_get_within}
use Rattle.lists.specs.ListLaws.{slice_get-inside}
use Rattle.concatenation.specs.declared.choice.Choice.{Choice}
use Rattle.concatenation.specs.declared.choice.Choice.TheVariants.{Open, Taken, LeftOut}
use Rattle.concatenation.specs.Choices.{is_left, remaining_of, Respects}
use Rattle.concatenation.specs.SetLaws.{IsWithin}

-- each set that respects the choices is within the trees that are not left out
pub remaining_of-holds : (choices : List Choice) (flags : List Bool) → length flags ≡ length choices →
    Respects choices flags → IsWithin flags (remaining_of choices)
remaining_of-holds choices flags size respects k in_set =
    let inside = slice_get_within flags k true in_set in
    let same = slice_get-map is_left choices k in
    let (choice, is) = slice_get-inside choices k (omega (arith, inside, size)) in
    elim choice as (λ c. slice_get choices k ≡ Some c → slice_get (remaining_of choices) k ≡ Some true) [
      | Open ↦ λ at_k. same ∙ ap (option_map is_left) at_k
      | Taken ↦ λ at_k. same ∙ ap (option_map is_left) at_k
      | LeftOut ↦ λ at_k. let absent = respects.leaves k at_k in cc
    ] is
