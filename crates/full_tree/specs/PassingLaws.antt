-- What bottlenecks tell of the lengths that are within them.
use Rattle.std.specs.Prelude.{ℕ, ◌≡◌, ◌≤◌, List}
use Rattle.std.proofs.Common.{subst, arith}
use Rattle.points_in.specs.declared.point.Point.{Point}
use Rattle.spanning.specs.Bottleneck.{IsBottleneck}
use Rattle.full_tree.specs.Passing.{IsWithinBottleneck}

-- a length is within a bottleneck where it is at most a number that is the bottleneck
pub within-from : (ps : List Point) (i j most n : ℕ) → IsBottleneck ps i j most → n ≤ most → IsWithinBottleneck ps i j n
within-from ps i j most n b h other c = omega (arith, b.least other c.chain)

-- the bottleneck of the same two terminals
pub IsBottleneck-at : (ps : List Point) (i i' j j' most : ℕ) → i ≡ i' → j ≡ j' → IsBottleneck ps i j most →
    IsBottleneck ps i' j' most
IsBottleneck-at ps i i' j j' most e f b =
    subst (λ k. IsBottleneck ps i' k most) f (subst (λ k. IsBottleneck ps k j most) e b)
