-- What an ascent comes to.
use Rattle.std.specs.Prelude.{ℕ, ◌≡◌, ◌==◌, ◌+◌, ◌*◌, ◌≤◌, ◌⊎◌, Bool, true, false, Some, if◌then◌else◌}
use Rattle.std.specs.Prelude.{List, [], ◌∷◌, ◌++◌, slice_get, length}
use Rattle.net_graph.specs.declared.edge.Edge.{Edge}
use Rattle.net_graph.specs.declared.packing.Cut.{Cut}
use Rattle.net_graph.specs.Graph.{Graph, total_of}
use Rattle.net_graph.specs.Decision.{Decided, IsFree, IsLowerBoundUnder, states_of}
use Rattle.net_graph.specs.Packing.{IsCut, IsFeasible, enters, packing_value}
use Rattle.net_graph.specs.Saturation.{IsMaximal}
use Rattle.dual_ascent.specs.declared.ascent.Ascent.{Ascent}
use Rattle.dual_ascent.specs.declared.costs.EdgeCosts.{EdgeCosts}
use Rattle.dual_ascent.specs.Costs.{costs_of}

-- the packing begins with the cuts of another one
abbrev pub BeginsWith : List Cut → List Cut → Type 0
BeginsWith packing start = (rest : List Cut) × (packing ≡ start ++ rest)

-- the packing with a closing cut, whose weight is the graph's total; there is none where the total is 0
abbrev pub closed_with : Graph → List Bool → List Cut → List Cut
closed_with g members packing =
    if total_of g == 0 then packing else packing ++ record { weight = total_of g; members = members } ∷ []

-- a cut that only arcs of free edges enter, so that no weight is too much for it
pub record IsClosingCut (g : Graph) (d : Decided) (members : List Bool) : Type 0 where
  pub cut : IsCut g d members
  pub free : (n : ℕ) (e : Edge) → slice_get g.edges n ≡ Some e →
      (enters members e.a e.b ≡ true) ⊎ (enters members e.b e.a ≡ true) → IsFree g d n

-- the packing is feasible and has at most two cuts for each edge, and this is what it leaves of the rooms
pub record AreLeftBehind (g : Graph) (d : Decided) (packing : List Cut) (costs : List EdgeCosts) : Type 0 where
  pub feasible : IsFeasible g d packing
  pub few : length packing ≤ 2 * length g.edges
  pub left : costs ≡ costs_of g.edges (states_of g d) packing

-- the ascent whose packing has these cuts first
abbrev pub behind : List Cut → Ascent → Ascent
behind first a = record a { packing = first ++ a.packing }

-- What an ascent comes to that begins with these cuts. No network that agrees with the decision is shorter than the
-- packing's value.
pub record IsAscent (g : Graph) (d : Decided) (start : List Cut) (a : Ascent) : Type 0 where
  pub feasible : IsFeasible g d a.packing
  pub begins : BeginsWith a.packing start
  pub few : length a.packing ≤ 4 * length g.edges + 1
  pub maximal : a.closed ≡ false → IsMaximal g d a.packing
  pub costs : a.closed ≡ false → a.costs ≡ costs_of g.edges (states_of g d) a.packing
  pub closed : a.closed ≡ true → total_of g ≤ packing_value g d a.packing
  pub closing : a.closed ≡ true → (members : List Bool) × IsClosingCut g d members
  pub bound : IsLowerBoundUnder g d (packing_value g d a.packing)
