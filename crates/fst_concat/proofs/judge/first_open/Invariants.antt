use Rattle.std.proofs.Common.{ℕ, ◌<◌}
use Rattle.concatenation.specs.Trails.{IsOpenPlace}
use Rattle.fst_concat.proofs.judge.first_open.Given as goal

abbrev pub invariant-loop-place : goal.invariant-loop-place
invariant-loop-place l = (k : ℕ) → k < l.place → ¬ IsOpenPlace l.choices k
