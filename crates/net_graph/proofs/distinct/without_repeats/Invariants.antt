use Rattle.std.proofs.Common.{◌≡◌, ◌<◌, length, take}
use Rattle.std.specs.Prelude.{All}
use Rattle.net_graph.proofs.lemmas.DistinctLemmas.{AreListed}
use Rattle.net_graph.proofs.distinct.without_repeats.Given as goal

-- the numbers so far are listed and marked
abbrev pub invariant-loop-n : goal.invariant-loop-n
invariant-loop-n l = record {
  size : length l.listed ≡ l.size;
  are : AreListed (take l.n-index l.numbers) l.listed l.kept.items;
  below : All (λ n. n < l.size) l.kept.items;
}
