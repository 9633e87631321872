-- The laws on trails: what they bound, and how many splits they have.
use Rattle.std.specs.Prelude.{ℕ, ◌+◌, ◌^◌, ◌<◌, List, length}
use Rattle.full_tree.specs.declared.code.Tree.{Tree}
use Rattle.concatenation.specs.Concatenation.{IsLeastTotal}
use Rattle.concatenation.specs.Trails.{Trail, splits_of, IsBoundedTrail, IsClosedTrail, IsSpentTrail}

-- where each end of some trail is bounded by a total, no concatenation has a smaller one
abbrev pub BoundedTrailIsLeast : Type 0
BoundedTrailIsLeast = (n : ℕ) (trees : List Tree) (total : ℕ) (trail : Trail)
    → IsBoundedTrail n trees total trail → IsLeastTotal n trees total

-- where some trail is closed for a total, no concatenation has a smaller one
abbrev pub ClosedTrailIsLeast : Type 0
ClosedTrailIsLeast = (n : ℕ) (trees : List Tree) (total : ℕ) (trail : Trail)
    → IsClosedTrail n trees total trail → IsLeastTotal n trees total

-- A spent trail over m trees has fewer than 2^m - 1 splits: with so many, every end would have decided every tree, and
-- none were open.
abbrev pub SpentTrailsAreShort : Type 0
SpentTrailsAreShort = (n : ℕ) (trees : List Tree) (total : ℕ) (trail : Trail)
    → IsSpentTrail n trees total trail → 1 + splits_of trail < 2 ^ length trees
