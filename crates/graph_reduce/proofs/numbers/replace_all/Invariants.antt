use Rattle.std.proofs.Common.{◌≡◌, ◌==◌, ℕ, ◌<◌, ◌≤◌, if◌then◌else◌, get_or}
use Rattle.graph_reduce.proofs.numbers.replace_all.Given as goal

abbrev pub invariant-loop-n : goal.invariant-loop-n
invariant-loop-n l = record {
  done : (k : ℕ) → k < l.n-index →
      get_or l.numbers k 0 ≡ (if get_or l.initial.numbers k 0 == l.from then l.to else get_or l.initial.numbers k 0);
  left : (k : ℕ) → l.n-index ≤ k → get_or l.numbers k 0 ≡ get_or l.initial.numbers k 0;
}
