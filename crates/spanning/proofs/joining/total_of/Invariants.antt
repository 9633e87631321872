use Rattle.std.proofs.Common.{◌≡◌, ◌≤◌, ◌*◌, ◌^◌}
use Rattle.spanning.proofs.lemmas.Totals.{total_so_far}
use Rattle.spanning.proofs.joining.total_of.Given as goal

abbrev pub invariant-loop-place : goal.invariant-loop-place
invariant-loop-place l = (l.total ≡ total_so_far l.pairs l.set l.place) × (l.total ≤ l.place * 2 ^ 64)
