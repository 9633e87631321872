-- What an STP file holds.
use Rattle.std.specs.Prelude.{ℕ, ◌≤◌, ◌<◌, ◌^◌, Bool, IsTrue, ◌&&◌, nat_le, List, length, Option, Some, None, option_and_then}
use Rattle.std.specs.List.{AllByRecursion}
use Rattle.std.specs.Ordering.{nat_cmp}
use Rattle.std.specs.BTreeMap.{is_at}
use Rattle.std.specs.Map.{lookup}
use Rattle.points_in.specs.declared.point.Point.{Point}
use Rattle.stp_format.specs.declared.edge.StpEdge.{StpEdge}

-- Nodes are the numbers from 1 to a count.
abbrev pub is_node : ℕ → ℕ → Bool
is_node nodes i = nat_le 1 i && nat_le i nodes

-- A graph: how many nodes it has, and its edges in order.
pub record StpGraph : Type 0 where
  pub nodes : ℕ
  pub edges : List StpEdge

-- A file: its graph, its terminals in order, and the points of nodes in ascending order of the nodes, where there
-- is a section for them.
pub record StpValue : Type 0 where
  pub nodes : ℕ
  pub edges : List StpEdge
  pub terminals : List ℕ
  pub coordinates : Option (List (ℕ × Point))

-- the point of a node
abbrev pub point_of_node : List (ℕ × Point) → ℕ → Option Point
point_of_node points node = lookup (is_at (nat_cmp node)) points

-- an edge between nodes, whose length is a number of 64 bits
pub record IsEdge (nodes : ℕ) (e : StpEdge) : Type 0 where
  pub i : IsTrue (is_node nodes e.i)
  pub j : IsTrue (is_node nodes e.j)
  pub fits : e.length < 2 ^ 64

-- one node or more, and edges between them, all counted by numbers of 32 bits
pub record IsGraph (g : StpGraph) : Type 0 where
  pub some : 1 ≤ g.nodes
  pub fits : g.nodes < 2 ^ 32
  pub edges : AllByRecursion (IsEdge g.nodes) g.edges
  pub few : length g.edges < 2 ^ 32

-- terminals that are nodes, counted so too
pub record AreTerminals (nodes : ℕ) (terminals : List ℕ) : Type 0 where
  pub are : AllByRecursion (λ i. IsTrue (is_node nodes i)) terminals
  pub few : length terminals < 2 ^ 32

-- what sections keep: terminals are nodes of the graph
abbrev pub AreSectionsOf : Option StpGraph → Option (List ℕ) → Type 0
AreSectionsOf graph None = Unit {0}
AreSectionsOf None (Some terminals) = ⊥
AreSectionsOf (Some graph) (Some terminals) = AreTerminals graph.nodes terminals

-- a node's point in a file, if it has one
abbrev pub point_in : StpValue → ℕ → Option Point
point_in v node = option_and_then (λ points. point_of_node points node) v.coordinates
