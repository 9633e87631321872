-- How active vertices change where more arcs become saturated.
use Rattle.std.specs.Prelude.{ℕ, ◌≡◌, ◌<◌, List, length, slice_index_or, Contains, ◌↔◌, ◌⊎◌}
use Rattle.std.specs.List.{AllPairs}
use Rattle.net_graph.specs.declared.arcs.Arc.{Arc}
use Rattle.net_graph.specs.Graph.{Graph}
use Rattle.net_graph.specs.Growth.{LeadsToOne, IsClosedBut}
use Rattle.net_graph.specs.Search.{OpenStep}
use Rattle.dual_ascent.specs.declared.active.ActiveVertex.{ActiveVertex}
use Rattle.dual_ascent.specs.declared.costs.EdgeCosts.{EdgeCosts}
use Rattle.dual_ascent.specs.Costs.{is_saturated}

-- of the saturated arcs only these are missing among those that the found vertices were found along
pub record MayGrow (g : Graph) (costs : List EdgeCosts) (arcs : List Arc) (a : ActiveVertex) : Type 0 where
  pub size : a.leading.size ≡ g.vertices
  pub closed : IsClosedBut g.vertices g.edges (is_saturated costs) arcs a.leading.order

-- the vertices were found that saturated arcs lead to one of the old ones from
pub record IsGrown (g : Graph) (costs : List EdgeCosts) (before after : ActiveVertex) : Type 0 where
  pub vertex : after.vertex ≡ before.vertex
  pub size : after.leading.size ≡ before.leading.size
  pub leading : (u : ℕ) → Contains after.leading.order u ↔
      LeadsToOne (OpenStep g.edges (is_saturated costs)) before.leading.order u

-- each was grown
pub record AreGrown (g : Graph) (costs : List EdgeCosts) (before after : List ActiveVertex) : Type 0 where
  pub count : length after ≡ length before
  pub each : (k : ℕ) (d : ActiveVertex) → k < length before →
      IsGrown g costs (slice_index_or before k d) (slice_index_or after k d)

-- the list without some of its items, in order, of which P holds
pub record LeavesOut (P : ActiveVertex → Type 0) (before after : List ActiveVertex) : Type 0 where
  pub among : (a : ActiveVertex) → Contains after a → Contains before a
  pub every : (a : ActiveVertex) → Contains before a → Contains after a ⊎ P a
  pub order : AllPairs (λ a b. a.vertex < b.vertex) before → AllPairs (λ a b. a.vertex < b.vertex) after
