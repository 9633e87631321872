-- A search that is under way: the steps so far, and the choices that are still to be judged, that of the next step
-- first.
use Rattle.std.specs.Prelude.{ℕ, ◌≡◌, ◌+◌, ◌-◌, ◌*◌, ◌^◌, ◌<◌, ◌≤◌, ◌⊎◌, List, [], ◌∷◌, All, length, min}
use Rattle.full_tree.specs.declared.code.Tree.{Tree}
use Rattle.concatenation.specs.declared.choice.Choice.{Choice}
use Rattle.concatenation.specs.Concatenation.{total_of}
use Rattle.concatenation.specs.Choices.{taken_of, IsLeastUnder}
use Rattle.concatenation.specs.Trails.{Trail, splits_of, no_choices, AllEnds, AllSplits, SomeEnd, IsOpenPlace, CanGoOn}
use Rattle.concatenation.specs.Trails.{IsNoBetter}
use Rattle.fst_concat.specs.declared.trail.Step.{Step}
use Rattle.fst_concat.specs.declared.trail_search.Way.{Way}
use Rattle.fst_concat.specs.Steps.{unwind}

-- An end that a search may leave: where the taken trees join all terminals, they have at least the best total, and no
-- concatenation that respects the choices is below the best total and below the least total that was left open.
pub record EndsWell (n : ℕ) (trees : List Tree) (total low : ℕ) (choices : List Choice) : Type 0 where
  pub no_better : IsNoBetter n trees total choices
  pub least : IsLeastUnder n trees choices (min total low)

-- a trail under choices whose splits are on open places where a search can go on, and whose ends a search may leave
pub record IsGood (n : ℕ) (trees : List Tree) (total low : ℕ) (choices : List Choice) (trail : Trail) : Type 0 where
  pub places : AllSplits IsOpenPlace choices trail
  pub splits : AllSplits (λ above place. CanGoOn n trees above) choices trail
  pub ends : AllEnds (EndsWell n trees total low) choices trail

-- choices where a search can go on, and what is taken is at most the total
pub record IsOpenUpTo (n : ℕ) (trees : List Tree) (total : ℕ) (choices : List Choice) : Type 0 where
  pub can_go_on : CanGoOn n trees choices
  pub taken : total_of trees (taken_of choices) ≤ total

-- some end of the trail is such
abbrev pub HasOpenEnd : ℕ → List Tree → ℕ → List Choice → Trail → Type 0
HasOpenEnd n trees total choices trail = SomeEnd (IsOpenUpTo n trees total) choices trail

-- each trail is good under the choices that stand where it stands
abbrev pub AreGood : ℕ → List Tree → ℕ → ℕ → List (List Choice) → List Trail → Type 0
AreGood n trees total low [] trails = Unit {0}
AreGood n trees total low (choices ∷ pending) [] = Unit {0}
AreGood n trees total low (choices ∷ pending) (trail ∷ trails) =
    IsGood n trees total low choices trail × AreGood n trees total low pending trails

-- some trail has an open end under the choices that stand where it stands
abbrev pub OneHasOpenEnd : ℕ → List Tree → ℕ → List (List Choice) → List Trail → Type 0
OneHasOpenEnd n trees total [] trails = ⊥
OneHasOpenEnd n trees total (choices ∷ pending) [] = ⊥
OneHasOpenEnd n trees total (choices ∷ pending) (trail ∷ trails) =
    HasOpenEnd n trees total choices trail ⊎ OneHasOpenEnd n trees total pending trails

-- the splits of all trails
abbrev pub splits_in : List Trail → ℕ
splits_in [] = 0
splits_in (trail ∷ trails) = splits_of trail + splits_in trails

-- The steps followed by a trail for each of the pending choices spell one trail. It is good where these are, for each
-- best total and each least open total from now on; it has an open end where one of these has; and where some end was
-- left open, it has an open end anyway.
pub record Completes (n : ℕ) (trees : List Tree) (total low used : ℕ) (steps : List Step) (pending : List (List Choice))
    (trails : List Trail) : Type 0 where
  pub trail : Trail
  pub one : unwind steps trails ≡ trail ∷ []
  pub count : splits_of trail ≡ used + splits_in trails
  pub good : (later_total later_low : ℕ) → later_total ≤ total → later_low ≤ low
      → AreGood n trees later_total later_low pending trails
      → IsGood n trees later_total later_low (no_choices trees) trail
  pub opens : (open_total : ℕ) → OneHasOpenEnd n trees open_total pending trails
      → HasOpenEnd n trees open_total (no_choices trees) trail
  pub found : low < 2 ^ 128 - 1 → HasOpenEnd n trees low (no_choices trees) trail

-- .. whatever trails these are
abbrev pub CompletesAll : ℕ → List Tree → ℕ → ℕ → ℕ → List Step → List (List Choice) → Type 0
CompletesAll n trees total low used steps pending = (trails : List Trail) → length trails ≡ length pending
    → Completes n trees total low used steps pending trails

-- a search with this best total is under way, and these choices are still to be judged, the first of them next
pub record IsUnderWay (n : ℕ) (trees : List Tree) (allowed total : ℕ) (way : Way) (pending : List (List Choice))
    : Type 0 where
  pub completes : CompletesAll n trees total way.low way.used way.steps.items pending
  pub sizes : All (λ choices. length choices ≡ length trees) pending
  pub within : way.used ≤ allowed
  pub spent : way.low < 2 ^ 128 - 1 → way.used ≡ allowed

-- how many further steps a search takes at most
abbrev pub steps_left : ℕ → Way → ℕ
steps_left allowed way = 2 * (allowed - way.used) + length way.pending.items
