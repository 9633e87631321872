use Rattle.std.proofs.Common.{◌≡◌, length}
use Rattle.strong_branching.proofs.relevant.leading.Given as goal

-- the found ones are a set of the graph's vertices
abbrev pub invariant-loop-vertex : goal.invariant-loop-vertex
invariant-loop-vertex l = length l.found ≡ l.graph.vertices

abbrev pub invariant-loop-place : goal.invariant-loop-place
invariant-loop-place l = length l.found ≡ l.graph.vertices

abbrev pub invariant-loop-arc : goal.invariant-loop-arc
invariant-loop-arc l = length l.found ≡ l.graph.vertices
