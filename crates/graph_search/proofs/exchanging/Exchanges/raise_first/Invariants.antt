use Rattle.graph_search.specs.Raised.{IsUnsplit}
use Rattle.graph_search.proofs.exchanging.Exchanges.raise_first.Given as goal

-- nothing was split so far
abbrev pub invariant-loop-exchange : goal.invariant-loop-exchange
invariant-loop-exchange g l = IsUnsplit l.fn.search l.search
