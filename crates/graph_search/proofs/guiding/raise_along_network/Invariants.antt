use Rattle.graph_search.specs.Raised.{IsUnsplit}
use Rattle.graph_search.proofs.guiding.raise_along_network.Given as goal

-- nothing was split so far
abbrev pub invariant-loop-ascent : goal.invariant-loop-ascent
invariant-loop-ascent g l = IsUnsplit l.fn.search l.search
