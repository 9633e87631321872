use Rattle.std.proofs.Common.{IfSome}
use Rattle.branch.specs.Searching.{CanSplitAt}
use Rattle.graph_search.proofs.trials.Trials.next_vertex.Given as goal

-- the leaf can be split on the vertex met so far
abbrev pub invariant-loop-vertex : goal.invariant-loop-vertex
invariant-loop-vertex g l = IfSome l.next (CanSplitAt l.search l.leaf)
