-- What holds of a search's choices at the ends of a trail holds of the choices above it.
use Rattle.std.proofs.Common.{ℕ, zero, suc, ◌≡◌, ◌≤◌, ◌⊎◌, inl, inr, Bool, true, false, List, [], ◌∷◌, length, set, slice_get, Some, arith, refl, sym, ◌∙◌}
use Rattle.std.proofs.lemmas.Bool.{cases_lt}
use Rattle.std.proofs.lemmas.List.{length-set, length-map, length-replicate}
use Rattle.std.proofs.lemmas.Option.{slice_get-map, slice_get_within}
use Rattle.concatenation.specs.ChoiceLaws.{remaining_of-holds}
use Rattle.net_graph.specs.EntryLaws.{slice_get-replicate}
use Rattle.lists.specs.ListLaws.{slice_get-inside}
use Rattle.full_tree.specs.declared.code.Tree.{Tree}
use Rattle.concatenation.specs.declared.choice.Choice.{Choice}
use Rattle.concatenation.specs.declared.choice.Choice.TheVariants.{Open, Taken, LeftOut}
use Rattle.concatenation.specs.Concatenation.{total_of}
use Rattle.concatenation.specs.Choices.{is_left, taken_of, remaining_of, Respects, IsLeastUnder}
use Rattle.concatenation.specs.Trails.{Trail, End, Split, no_choices, AllEnds, SomeEnd, AllSplits, IsOpenPlace, IsOpenEnd, IsNoBetter}
use Rattle.concatenation.specs.TrailLaws.{BoundedTrailIsLeast, ClosedTrailIsLeast}
use Rattle.concatenation.proofs.lemmas.Sets.{more_trees_join_lem, totals_rise_lem}

-- what stands at a place of a list after a write was written, or stood there
slice_get-set_cases : {X : Type 0} (xs : List X) (i k : ℕ) (y z : X) → slice_get (set xs i y) k ≡ Some z →
    ((k ≡ i) × (y ≡ z)) ⊎ (slice_get xs k ≡ Some z)
slice_get-set_cases [] i k y z at = inr at
slice_get-set_cases (x ∷ xs) zero zero y z at = inl (refl, cc)
slice_get-set_cases (x ∷ xs) zero (suc k) y z at = inr at
slice_get-set_cases (x ∷ xs) (suc i) zero y z at = inr at
slice_get-set_cases (x ∷ xs) (suc i) (suc k) y z at = grind (arith, slice_get-set_cases xs i k y z)

-- a set with the tree respects the choices that take it too
Respects-taken : (choices : List Choice) (flags : List Bool) (place : ℕ) → slice_get flags place ≡ Some true →
    Respects choices flags → Respects (set choices place Taken) flags
Respects-taken choices flags place in_set respects = grind (arith, slice_get-set_cases)

-- a set without the tree respects the choices that leave it out too
Respects-left_out : (choices : List Choice) (flags : List Bool) (place : ℕ) → slice_get flags place ≡ Some false →
    Respects choices flags → Respects (set choices place LeftOut) flags
Respects-left_out choices flags place not_in_set respects = grind (arith, slice_get-set_cases)

-- every set respects that nothing is decided
Respects-no_choices : (trees : List Tree) (flags : List Bool) → Respects (no_choices trees) flags
Respects-no_choices trees flags = grind (arith, slice_get-replicate)

-- ---- a bound at each end is one above them

pub IsLeastUnder-from_ends : (n : ℕ) (trees : List Tree) (total : ℕ) (choices : List Choice) (trail : Trail) →
    length choices ≡ length trees → AllSplits IsOpenPlace choices trail →
    AllEnds (λ ends. IsLeastUnder n trees ends total) choices trail → IsLeastUnder n trees choices total
IsLeastUnder-from_ends n trees total choices End size places ends = ends
IsLeastUnder-from_ends n trees total choices (Split place without with_it) size places ends =
    λ flags joined respects.
    let inside = slice_get_within choices place Open places.0 in
    let (flag, is) = slice_get-inside flags place (omega (arith, inside, size, joined.size)) in
    elim flag as (λ b. slice_get flags place ≡ Some b → total ≤ total_of trees flags) [
      | true ↦ λ in_set. IsLeastUnder-from_ends n trees total (set choices place Taken) with_it
          (length-set choices place Taken ∙ size) places.2 ends.1 flags joined
          (Respects-taken choices flags place in_set respects)
      | false ↦ λ not_in_set. IsLeastUnder-from_ends n trees total (set choices place LeftOut) without
          (length-set choices place LeftOut ∙ size) places.1 ends.0 flags joined
          (Respects-left_out choices flags place not_in_set respects)
    ] is

pub bounded_trail_lem : BoundedTrailIsLeast
bounded_trail_lem n trees total trail bounded flags joined =
    IsLeastUnder-from_ends n trees total (no_choices trees) trail (length-replicate (length trees) Open) bounded.places
    bounded.ends flags joined (Respects-no_choices trees flags)

-- ---- an end that isn't open is bounded

-- where no concatenation of the trees that are left is below the total, none that respects the choices is
IsLeastUnder-from_closed : (n : ℕ) (trees : List Tree) (total : ℕ) (choices : List Choice) → length choices ≡ length trees →
    IsNoBetter n trees total choices → (IsOpenEnd n trees total choices → ⊥) → IsLeastUnder n trees choices total
IsLeastUnder-from_closed n trees total choices size no_better closed flags joined respects =
    let rises = totals_rise_lem trees (taken_of choices) flags (grind (arith, slice_get_within, slice_get-map, slice_get-inside, length-map)) in
    elim (cases_lt (total_of trees (taken_of choices)) total) [
      | inl below ↦ absurd (closed record {
        can_go_on = record {
          remaining = more_trees_join_lem n trees flags (remaining_of choices)
              (remaining_of-holds choices flags (joined.size ∙ sym size) respects)
              (length-map choices is_left ∙ size) joined;
          taken = λ joins. omega (arith, no_better joins, below);
        };
        below = below;
      })
      | inr above ↦ omega (arith, rises, above)
    ]

-- so where no end is open each end is bounded
bounded_from_closed : (n : ℕ) (trees : List Tree) (total : ℕ) (choices : List Choice) (trail : Trail) →
    length choices ≡ length trees → AllEnds (IsNoBetter n trees total) choices trail →
    (SomeEnd (IsOpenEnd n trees total) choices trail → ⊥) → AllEnds (λ ends. IsLeastUnder n trees ends total) choices trail
bounded_from_closed n trees total choices End size ends closed = IsLeastUnder-from_closed n trees total choices size ends closed
bounded_from_closed n trees total choices (Split place without with_it) size ends closed = (
  bounded_from_closed n trees total (set choices place LeftOut) without (length-set choices place LeftOut ∙ size) ends.0
      (λ open_end. closed (inl open_end)),
  bounded_from_closed n trees total (set choices place Taken) with_it (length-set choices place Taken ∙ size) ends.1
      (λ open_end. closed (inr open_end)),
)

pub closed_trail_lem : ClosedTrailIsLeast
closed_trail_lem n trees total trail closed =
    bounded_trail_lem n trees total trail record {
      places = closed.places;
      ends = bounded_from_closed n trees total (no_choices trees) trail (length-replicate (length trees) Open) closed.ends
          closed.closed;
    }
