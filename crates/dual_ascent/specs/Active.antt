-- The vertices of a list that saturated arcs don't lead to from the root, each with the vertices that lead to it.
use Rattle.std.specs.Prelude.{ℕ, ◌≡◌, ◌<◌, List, map, length, All, Contains, ◌⊎◌, ◌↔◌}
use Rattle.std.specs.List.{AllPairs}
use Rattle.net_graph.specs.Graph.{Graph, root_of}
use Rattle.dual_ascent.specs.declared.active.ActiveVertex.{ActiveVertex}
use Rattle.dual_ascent.specs.declared.candidate.Candidate.{Candidate}
use Rattle.dual_ascent.specs.declared.costs.EdgeCosts.{EdgeCosts}
use Rattle.dual_ascent.specs.Steps.{SaturatedLeads}

-- the found vertices are those that lead to it
pub record IsKept (g : Graph) (costs : List EdgeCosts) (a : ActiveVertex) : Type 0 where
  pub size : a.leading.size ≡ g.vertices
  pub leading : (u : ℕ) → Contains a.leading.order u ↔ SaturatedLeads g costs u a.vertex

-- the numbers of the vertices
abbrev pub vertices_of : List ActiveVertex → List ℕ
vertices_of list = map (λ a. a.vertex) list

-- those of the vertices that the root doesn't lead to, ascending, each with the vertices that lead to it
pub record AreActive (g : Graph) (vertices : List ℕ) (costs : List EdgeCosts) (list : List ActiveVertex) : Type 0 where
  pub kept : All (IsKept g costs) list
  pub among : All (λ a. Contains vertices a.vertex) list
  pub apart : All (λ a. SaturatedLeads g costs (root_of g) a.vertex → ⊥) list
  pub every : All (λ v. Contains (vertices_of list) v ⊎ SaturatedLeads g costs (root_of g) v) vertices
  pub ascending : AllPairs (λ a b. a.vertex < b.vertex) list

-- the candidate that stands for it: its size is the number of the vertices that lead to it
abbrev pub candidate_of : ActiveVertex → Candidate
candidate_of a = record { number = a.vertex; size = length a.leading.order }
