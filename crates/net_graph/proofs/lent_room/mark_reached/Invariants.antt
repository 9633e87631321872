use Rattle.std.proofs.Common.{ℕ, ◌-◌, [], ◌∷◌, take, Contains}
use Rattle.net_graph.specs.Found.{AreFoundInRoom}
use Rattle.net_graph.specs.Growth.{LeadsFromOne}
use Rattle.net_graph.specs.Search.{OpenStep}
use Rattle.net_graph.proofs.lemmas.SearchLemmas.{SearchSoFar}
use Rattle.net_graph.proofs.lent_room.mark_reached.Given as goal

-- The search has gone over the vertices before the place, and the start stays among the found ones.
abbrev pub invariant-loop-place : goal.invariant-loop-place
invariant-loop-place g l = record {
  so_far : SearchSoFar (OpenStep l.graph.edges (g.P.Passage.opens l.passage)) (LeadsFromOne (OpenStep l.graph.edges (g.P.Passage.opens l.passage)) (l.start ∷ [])) l.graph.vertices l.place (take l.count l.queue);
  found : AreFoundInRoom l.marks l.queue l.count;
  start : (v : ℕ) → Contains (l.start ∷ []) v → Contains (take l.count l.queue) v;
}

abbrev pub decreases-loop-place : goal.decreases-loop-place
decreases-loop-place g l = l.graph.vertices - l.place
