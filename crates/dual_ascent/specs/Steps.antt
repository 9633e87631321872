-- The steps of a dual ascent (after Wong 1984), by what is left of the arcs' costs.
use Rattle.std.specs.Prelude.{ℕ, ◌≡◌, ◌<◌, Bool, true, false, List, map, length, All, Contains, Some, None, ◌↔◌}
use Rattle.net_graph.specs.declared.packing.Cut.{Cut}
use Rattle.net_graph.specs.Flags.{has}
use Rattle.net_graph.specs.Graph.{Graph, root_of}
use Rattle.net_graph.specs.Decision.{Decided, IsRequired}
use Rattle.net_graph.specs.Search.{OpenStep, Leads}
use Rattle.dual_ascent.specs.declared.costs.EdgeCosts.{EdgeCosts}
use Rattle.dual_ascent.specs.declared.step.Step.{Step}
use Rattle.dual_ascent.specs.declared.step.Step.TheVariants.{Done, Pack, Close}
use Rattle.dual_ascent.specs.Costs.{is_saturated, lowered_by, Entering, IsLeastOf}

-- these are the required vertices
pub record AreRequired (g : Graph) (decision : Decided) (vertices : List ℕ) : Type 0 where
  pub each : All (IsRequired g decision) vertices
  pub every : (v : ℕ) → IsRequired g decision v → Contains vertices v

-- arcs of which nothing is left lead from the one vertex to the other
abbrev pub SaturatedLeads : Graph → List EdgeCosts → ℕ → ℕ → Type 0
SaturatedLeads g costs u v = Leads (OpenStep g.edges (is_saturated costs)) u v

-- the members are the vertices that lead to the vertex
pub record LeadTo (g : Graph) (costs : List EdgeCosts) (v : ℕ) (members : List Bool) : Type 0 where
  pub size : length members ≡ g.vertices
  pub flags : (u : ℕ) → (has members u ≡ true) ↔ SaturatedLeads g costs u v

-- the set doesn't hold the root and holds one of the vertices
pub record Parts (g : Graph) (vertices : List ℕ) (members : List Bool) : Type 0 where
  pub size : length members ≡ g.vertices
  pub rootless : has members (root_of g) ≡ false
  pub some : (v : ℕ) × Contains vertices v × (has members v ≡ true)

-- the cut may be packed, and then nothing is left of an arc that enters it
pub record IsNextCut (g : Graph) (vertices : List ℕ) (costs : List EdgeCosts) (cut : Cut) : Type 0 where
  pub weight : 0 < cut.weight
  pub parts : Parts g vertices cut.members
  pub least : IsLeastOf (Entering costs cut.members) (Some cut.weight)

-- the set is packed with the least room that is left of an arc that enters it, or closed where there is none
abbrev pub IsStepAt : List EdgeCosts → List Bool → Step → Type 0
IsStepAt costs members Done = ⊥
IsStepAt costs members (Pack cut) = (cut.members ≡ members) × IsLeastOf (Entering costs members) (Some cut.weight)
IsStepAt costs members (Close set) = (set ≡ members) × IsLeastOf (Entering costs members) None

-- the root leads to all vertices, or the cut is the next one, or no limited arc enters the set
abbrev pub IsNextStep : Graph → List ℕ → List EdgeCosts → Step → Type 0
IsNextStep g vertices costs Done = All (SaturatedLeads g costs (root_of g)) vertices
IsNextStep g vertices costs (Pack cut) = IsNextCut g vertices costs cut
IsNextStep g vertices costs (Close members) = Parts g vertices members × IsLeastOf (Entering costs members) None

-- the costs after the step: those that its cut leaves
abbrev pub IsLoweredBy : Step → List EdgeCosts → List EdgeCosts → Type 0
IsLoweredBy Done before after = after ≡ before
IsLoweredBy (Pack cut) before after = after ≡ map (lowered_by cut) before
IsLoweredBy (Close members) before after = after ≡ before
