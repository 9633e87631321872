-- The arcs that enter a set and can be saturated, with what is left of each.
use Rattle.std.specs.Prelude.{ℕ, ◌≡◌, ◌<◌, Bool, true, List, All, Contains, Some}
use Rattle.net_graph.specs.declared.arcs.Arc.{Arc}
use Rattle.net_graph.specs.Arcs.{partner_of, IsArcOf}
use Rattle.net_graph.specs.Packing.{enters}
use Rattle.dual_ascent.specs.declared.costs.EdgeCosts.{EdgeCosts}
use Rattle.dual_ascent.specs.declared.entering.EnteringArc.{EnteringArc}
use Rattle.dual_ascent.specs.Costs.{edges_of, cost_of}

-- the arc enters the set, and this is left of it
pub record EntersLeft (costs : List EdgeCosts) (members : List Bool) (e : EnteringArc) : Type 0 where
  pub arc : IsArcOf (edges_of costs) e.arc
  pub enters : enters members e.arc.from e.arc.to ≡ true
  pub left : cost_of costs e.arc.number ≡ Some e.left

-- the other arc of its edge, which leads the other way
abbrev pub turned : Arc → Arc
turned arc = record { number = partner_of arc.number; from = arc.to; to = arc.from }

-- these are the arcs that enter the set, with what is left of each
pub record AreEntering (costs : List EdgeCosts) (members : List Bool) (list : List EnteringArc) : Type 0 where
  pub each : All (EntersLeft costs members) list
  pub every : (arc : Arc) (left : ℕ) → IsArcOf (edges_of costs) arc → enters members arc.from arc.to ≡ true →
      cost_of costs arc.number ≡ Some left → Contains list (record { arc = arc; left = left })

-- the arcs enter the set, with what is left of each, and those are among them that lead to vertices below a bound
pub record AreEnteringBelow (costs : List EdgeCosts) (members : List Bool) (bound : ℕ)
    (list : List EnteringArc) : Type 0 where
  pub each : All (EntersLeft costs members) list
  pub every : (arc : Arc) (left : ℕ) → arc.to < bound → IsArcOf (edges_of costs) arc →
      enters members arc.from arc.to ≡ true → cost_of costs arc.number ≡ Some left →
      Contains list (record { arc = arc; left = left })

-- this is left of one of the arcs
abbrev pub IsLeftOfOne : List EnteringArc → ℕ → Type 0
IsLeftOfOne list left = (e : EnteringArc) × Contains list e × (e.left ≡ left)
