use Rattle.std.proofs.Common.{◌≡◌, take}
use Rattle.net_graph.specs.Packing.{inside_length}
use Rattle.tree_judge.proofs.way.length_inside.Given as goal

-- the sum of the inside edges' lengths so far
abbrev pub invariant-loop-n : goal.invariant-loop-n
invariant-loop-n l = l.sum ≡ inside_length (take l.n l.g.edges) l.decided.edges
