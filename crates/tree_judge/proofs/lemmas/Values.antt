-- What is kept of the values of leaves.
use Rattle.std.proofs.Common.{ℕ, ◌≡◌, ◌≤◌, min, List, [], ◌∷◌, arith}
use Rattle.tree_judge.specs.Judged.{least_with}

-- with a lesser number
pub least_with-lesser : (top low : ℕ) (ns : List ℕ) → low ≤ top → min (least_with top ns) low ≡ least_with low ns
least_with-lesser top low [] le = omega arith
least_with-lesser top low (n ∷ ns) le = omega (arith, least_with-lesser top low ns le)
