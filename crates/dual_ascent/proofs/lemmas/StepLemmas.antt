-- The cut of an active vertex.
use Rattle.std.proofs.Common.{ℕ, zero, suc, ◌≡◌, ◌<◌, Bool, not, List, map, length, get_or, All, Contains, Some, None, sym, subst, ◌∙◌, arith}
use Rattle.std.proofs.lemmas.Bool.{both_ways, and_parts, not-true}
use Rattle.std.proofs.lemmas.List.{length-map}
use Rattle.net_graph.specs.Flags.{has}
use Rattle.net_graph.specs.Found.{HasMembers}
use Rattle.net_graph.specs.Graph.{Graph, root_of}
use Rattle.net_graph.specs.Search.{OpenStep, Leads}
use Rattle.net_graph.specs.SearchLaws.{Leads-start, Leads-more, Leads-trans}
use Rattle.dual_ascent.specs.declared.costs.EdgeCosts.{EdgeCosts}
use Rattle.dual_ascent.specs.declared.step.Step.{Step}
use Rattle.dual_ascent.specs.declared.step.Step.TheVariants.{Done, Pack, Close}
use Rattle.dual_ascent.specs.declared.active.ActiveVertex.{ActiveVertex}
use Rattle.dual_ascent.specs.Active.{IsKept, AreActive}
use Rattle.dual_ascent.specs.Costs.{edges_of, is_saturated, Entering, IsLeastOf}
use Rattle.dual_ascent.specs.Steps.{SaturatedLeads, LeadTo, Parts, IsStepAt, IsNextStep}
use Rattle.dual_ascent.proofs.lemmas.SaturatedLemmas.{OpenStep-from_entering}

-- a candidate is one of the vertices that isn't reached
pub record IsUnreached (g : Graph) (costs : List EdgeCosts) (vertices : List ℕ) (v : ℕ) : Type 0 where
  pub vertex : Contains vertices v
  pub apart : SaturatedLeads g costs (root_of g) v → ⊥

-- an arc that enters the vertices that lead to a vertex has room left
entering_not_full : (g : Graph) (costs : List EdgeCosts) (v : ℕ) (members : List Bool) → map (λ (room : EdgeCosts). room.edge) costs ≡ g.edges → LeadTo g costs v members → Entering costs members 0 → ⊥
entering_not_full g costs v members of lead entering =
    let Step : ℕ → ℕ → Type 0 = OpenStep g.edges (is_saturated costs) in
    let (tail, head, step, entered) = OpenStep-from_entering g.edges costs members of entering in
    let parts = and_parts (has members head) (not (has members tail)) entered in
    let there : Leads Step tail head = Leads-more Step tail tail head (Leads-start Step tail) step in
    let on : Leads Step head v = (lead.flags head).0 parts.0 in
    both_ways (has members tail) (not-true (has members tail) parts.1) ((lead.flags tail).1 (Leads-trans Step tail head v there on))

-- the vertices that lead to a vertex which isn't reached part it from the root
pub Parts-from_unreached : (g : Graph) (costs : List EdgeCosts) (vertices : List ℕ) (v : ℕ) (members : List Bool) → LeadTo g costs v members → IsUnreached g costs vertices v → Parts g vertices members
Parts-from_unreached g costs vertices v members lead unreached = grind arith

-- the least room of the arcs that enter is some room
weight_some : (g : Graph) (costs : List EdgeCosts) (v weight : ℕ) (members : List Bool) → map (λ (room : EdgeCosts). room.edge) costs ≡ g.edges → LeadTo g costs v members → Entering costs members weight → 0 < weight
weight_some g costs v zero members of lead entering = absurd (entering_not_full g costs v members of lead entering)
weight_some g costs v (suc weight) members of lead entering = omega arith

-- the step at a candidate is a next step
pub IsNextStep-at : (g : Graph) (costs : List EdgeCosts) (vertices : List ℕ) (v : ℕ) (members : List Bool) (step : Step) → map (λ (room : EdgeCosts). room.edge) costs ≡ g.edges →
    LeadTo g costs v members → IsUnreached g costs vertices v → IsStepAt costs members step → IsNextStep g vertices costs step
IsNextStep-at g costs vertices v members Done of lead unreached at = absurd at
IsNextStep-at g costs vertices v members (Pack cut) of lead unreached (is, least) = record {
  weight = weight_some g costs v cut.weight members of lead least.0;
  parts = subst (Parts g vertices) (sym is) (Parts-from_unreached g costs vertices v members lead unreached);
  least = subst (λ set. IsLeastOf (Entering costs set) (Some cut.weight)) (sym is) least;
}
IsNextStep-at g costs vertices v members (Close set) of lead unreached (is, none) = (
  subst (Parts g vertices) (sym is) (Parts-from_unreached g costs vertices v members lead unreached),
  subst (λ s. IsLeastOf (Entering costs s) None) (sym is) none,
)

-- the vertices that were found are those that lead to it
pub LeadTo-from_kept : (g : Graph) (costs : List EdgeCosts) (a : ActiveVertex) (members : List Bool) → IsKept g costs a → HasMembers a.leading members → LeadTo g costs a.vertex members
LeadTo-from_kept g costs a members kept are = record {
  size = are.size ∙ kept.size;
  flags = λ u. (λ inside. (kept.leading u).0 ((are.flags u).0 inside), λ led. (are.flags u).1 ((kept.leading u).1 led));
}

-- the step at an active vertex is a next step
pub IsNextStep-active : (g : Graph) (costs : List EdgeCosts) (vertices : List ℕ) (list : List ActiveVertex) (place : ℕ) (a : ActiveVertex) (members : List Bool) (step : Step) → edges_of costs ≡ g.edges →
    AreActive g vertices costs list → place < length list → a ≡ get_or list place a → HasMembers a.leading members → IsStepAt costs members step → IsNextStep g vertices costs step
IsNextStep-active g costs vertices list place a members step of active within is are at =
    let kept : IsKept g costs a = subst (IsKept g costs) (sym is) (active.kept place a within) in
    let vertex : Contains vertices a.vertex = subst (λ b. Contains vertices b.vertex) (sym is) (active.among place a within) in
    let apart : SaturatedLeads g costs (root_of g) a.vertex → ⊥ = subst (λ b. SaturatedLeads g costs (root_of g) b.vertex → ⊥) (sym is) (active.apart place a within) in
    IsNextStep-at g costs vertices a.vertex members step of (LeadTo-from_kept g costs a members kept are) (record { vertex = vertex; apart = apart }) at

-- without an active vertex the root leads to all
pub all_reached : (g : Graph) (costs : List EdgeCosts) (vertices : List ℕ) (list : List ActiveVertex) → AreActive g vertices costs list → length list ≡ 0 → All (SaturatedLeads g costs (root_of g)) vertices
all_reached g costs vertices list active none k d lt = grind (arith, length-map, active.every k d lt)
