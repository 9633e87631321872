-- Trails: what a search for the least total leaves behind. It begins with no tree decided; a split decides a tree.
use Rattle.std.specs.Prelude.{ℕ, ◌+◌, ◌≡◌, ◌<◌, ◌≤◌, ◌⊎◌, List, length, replicate, slice_get, slice_set, Some}
use Rattle.full_tree.specs.declared.code.Tree.{Tree}
use Rattle.concatenation.specs.declared.choice.Choice.{Choice}
use Rattle.concatenation.specs.declared.choice.Choice.TheVariants.{Open, Taken, LeftOut}
use Rattle.concatenation.specs.Concatenation.{total_of}
use Rattle.concatenation.specs.Choices.{taken_of, AreTakenJoining, AreRemainingJoining, IsLeastUnder}

-- An end, or a split on the tree at a place of the list, with the part where it is left out and the part where it is
-- taken.
pub data Trail : Type 0 where
  End : Trail
  Split : (place : ℕ) → (without : Trail) → (with_it : Trail) → Trail

-- the number of its splits
abbrev pub splits_of : Trail → ℕ
splits_of End = 0
splits_of (Split place without with_it) = 1 + splits_of without + splits_of with_it

-- nothing is decided
abbrev pub no_choices : List Tree → List Choice
no_choices trees = replicate (length trees) Open

-- P holds of the choices at each end of the trail
abbrev pub AllEnds : (List Choice → Type 0) → List Choice → Trail → Type 0
AllEnds P choices End = P choices
AllEnds P choices (Split place without with_it) =
    AllEnds P (slice_set choices place LeftOut) without × AllEnds P (slice_set choices place Taken) with_it

-- P holds of the choices at some end of the trail
abbrev pub SomeEnd : (List Choice → Type 0) → List Choice → Trail → Type 0
SomeEnd P choices End = P choices
SomeEnd P choices (Split place without with_it) =
    SomeEnd P (slice_set choices place LeftOut) without ⊎ SomeEnd P (slice_set choices place Taken) with_it

-- P holds of the choices above each split of the trail and of its place
abbrev pub AllSplits : (List Choice → ℕ → Type 0) → List Choice → Trail → Type 0
AllSplits P choices End = Unit {0}
AllSplits P choices (Split place without with_it) = P choices place
    × AllSplits P (slice_set choices place LeftOut) without × AllSplits P (slice_set choices place Taken) with_it

-- the tree at the place is not decided yet: no split above names it
abbrev pub IsOpenPlace : List Choice → ℕ → Type 0
IsOpenPlace choices place = slice_get choices place ≡ Some Open

-- A search can go on here: the trees that are not left out join all terminals, and those that are taken don't.
pub record CanGoOn (n : ℕ) (trees : List Tree) (choices : List Choice) : Type 0 where
  pub remaining : AreRemainingJoining n trees choices
  pub taken : ¬ AreTakenJoining n trees choices

-- An open end for a total: a search can go on here, and what is taken is below the total.
pub record IsOpenEnd (n : ℕ) (trees : List Tree) (total : ℕ) (choices : List Choice) : Type 0 where
  pub can_go_on : CanGoOn n trees choices
  pub below : total_of trees (taken_of choices) < total

-- where the trees that are taken join all terminals, they have at least the total
abbrev pub IsNoBetter : ℕ → List Tree → ℕ → List Choice → Type 0
IsNoBetter n trees total choices = AreTakenJoining n trees choices → total ≤ total_of trees (taken_of choices)

-- The trail of a search that stopped: each split is on a tree that no split above it names, and stands where a search
-- can go on; no end is better than the total; and some end is open.
pub record IsSpentTrail (n : ℕ) (trees : List Tree) (total : ℕ) (trail : Trail) : Type 0 where
  pub places : AllSplits IsOpenPlace (no_choices trees) trail
  pub splits : AllSplits (λ choices place. CanGoOn n trees choices) (no_choices trees) trail
  pub ends : AllEnds (IsNoBetter n trees total) (no_choices trees) trail
  pub open_end : SomeEnd (IsOpenEnd n trees total) (no_choices trees) trail

-- A trail each end of which is bounded: no concatenation that respects the choices there is below the total.
pub record IsBoundedTrail (n : ℕ) (trees : List Tree) (total : ℕ) (trail : Trail) : Type 0 where
  pub places : AllSplits IsOpenPlace (no_choices trees) trail
  pub ends : AllEnds (λ choices. IsLeastUnder n trees choices total) (no_choices trees) trail

-- A trail with no open end for the total, where no end is better.
pub record IsClosedTrail (n : ℕ) (trees : List Tree) (total : ℕ) (trail : Trail) : Type 0 where
  pub places : AllSplits IsOpenPlace (no_choices trees) trail
  pub ends : AllEnds (IsNoBetter n trees total) (no_choices trees) trail
  pub closed : ¬ SomeEnd (IsOpenEnd n trees total) (no_choices trees) trail
