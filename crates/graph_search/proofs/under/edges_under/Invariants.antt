use Rattle.std.proofs.Common.{◌≡◌, length}
use Rattle.graph_search.proofs.under.edges_under.Given as goal

-- an edge for each number so far
abbrev pub invariant-loop-number : goal.invariant-loop-number
invariant-loop-number l = length l.list ≡ l.number
