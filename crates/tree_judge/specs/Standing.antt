-- What a judge keeps of the lines that it judged.
use Rattle.std.specs.Prelude.{◌≡◌, ◌-◌, ◌^◌, ◌≤◌, Bool, List, length, drop}
use Rattle.net_graph.specs.Graph.{Graph}
use Rattle.net_graph.specs.Decision.{nothing_decided}
use Rattle.tree_judge.specs.declared.judge.Judge.{Judge}
use Rattle.tree_judge.specs.Path.{decisions_behind}
use Rattle.tree_judge.specs.Judged.{SoFar, decision_due, least_with}
use Rattle.tree_judge.specs.Loads.{HasLoads, IsLeafOf, weight_kept}
use Rattle.tree_judge.specs.Ways.{StandsOnWay}

-- the edges that were judged to be right
abbrev pub network_of : Judge → List Bool
network_of judge = judge.edges

-- the judge was made for the graph, which has few enough terminals, and so were its loads and the room of a search; it
-- stands on a way of no more splits than were judged
pub record IsJudgeOn (g : Graph) (judge : Judge) : Type 0 where
  pub network : length judge.edges ≡ length g.edges
  pub terminals : length g.terminals ≤ 255
  pub loads : HasLoads g judge.room.loads
  pub search : judge.room.search ≡ g.vertices
  pub way : StandsOnWay g judge.room.way
  pub depth : length judge.room.way.path ≤ judge.splits
  pub few : judge.splits ≤ 255

-- this was told so far
pub record StandsFor (g : Graph) (s : SoFar) (judge : Judge) : Type 0 where
  pub claim : judge.claim ≡ s.claim
  pub edges_due : judge.edges_due ≡ s.edges_due
  pub network : judge.edges ≡ s.network
  pub decision : decision_due g s ≡ judge.room.way.decided
  pub behind : drop 1 s.decisions ≡ decisions_behind (nothing_decided g) judge.room.way.path
  pub splits : judge.splits ≡ s.splits
  pub cuts_due : judge.cuts_due ≡ s.cuts_due
  pub leaf : IsLeafOf g s.cuts judge.room.way.decided judge.room.loads
  pub weight : judge.weight ≡ weight_kept s.cuts
  pub least : judge.least ≡ least_with (2 ^ 64 - 1) s.values
