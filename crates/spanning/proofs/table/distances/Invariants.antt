use Rattle.std.proofs.Common.{ℕ, ◌≡◌, ◌<◌, ◌/◌, ◌%◌, get_or, length}
use Rattle.hanan_grid.specs.Distance.{distance_of}
use Rattle.spanning.proofs.table.distances.Given as goal

abbrev pub invariant-loop-place : goal.invariant-loop-place
invariant-loop-place l = (length l.lengths.items ≡ l.place) × ((k : ℕ) → k < l.place → get_or l.lengths.items k 0 ≡ distance_of l.grid (k / l.n) (k % l.n))
