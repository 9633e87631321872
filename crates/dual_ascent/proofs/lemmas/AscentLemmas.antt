-- What an ascent keeps from step to step, and what it ends with.
use Rattle.std.proofs.Common.{ℕ, ◌≡◌, ◌+◌, ◌-◌, ◌*◌, ◌≤◌, ◌<◌, Bool, true, eqb, eqb-true, List, [], ◌∷◌, ◌++◌, map, length, slice_get, All, Contains, Some, None, ◌⊎◌, inl, inr, ⊎_elim, refl, ◌↔◌, IsTrue, get_or, sym, ap, subst, ◌∙◌, arith, length-append, append_assoc}
use Rattle.std.proofs.lemmas.Bool.{cond_both, eqb-false}
use Rattle.std.proofs.lemmas.List.Elements.{All-contains}
use Rattle.std.proofs.lemmas.List.Sums.{sum_by_push}
use Rattle.std.proofs.lemmas.Option.{get_or_from_slice_get, slice_get-get_or, slice_get_within}
use Rattle.net_graph.specs.declared.edge.Edge.{Edge}
use Rattle.net_graph.specs.declared.packing.Cut.{Cut}
use Rattle.net_graph.specs.declared.state.EdgeState.{EdgeState}
use Rattle.net_graph.specs.declared.state.EdgeState.TheVariants.{Undecided, Inside, Outside}
use Rattle.net_graph.specs.Flags.{has}
use Rattle.net_graph.specs.Graph.{Graph, root_of, total_of}
use Rattle.net_graph.specs.Decision.{Decided, IsDecisionFor, IsFree, states_of}
use Rattle.net_graph.specs.DecisionLaws.{length-states_of, states_of-free}
use Rattle.net_graph.specs.Search.{OpenStep, Leads}
use Rattle.net_graph.specs.SearchLaws.{Leads-weaker}
use Rattle.net_graph.specs.Packing.{IsCut, IsFeasible, IsWithinRoom, enters, load, room_of, packing_value}
use Rattle.net_graph.specs.Saturation.{SaturatedStep, IsMaximal}
use Rattle.dual_ascent.specs.declared.costs.EdgeCosts.{EdgeCosts}
use Rattle.dual_ascent.specs.Ascending.{BeginsWith, IsClosingCut, closed_with}
use Rattle.dual_ascent.specs.Costs.{left_after, left_of, costs_of, lowered_by, is_saturated, unsaturated, Entering, IsLeastOf}
use Rattle.dual_ascent.specs.Steps.{AreRequired, SaturatedLeads, Parts, IsNextCut}
use Rattle.dual_ascent.proofs.lemmas.LoadLemmas.{map-lowered_by}
use Rattle.dual_ascent.proofs.lemmas.SaturatedLemmas.{SaturatedStep-iff_open}
use Rattle.dual_ascent.proofs.lemmas.PackLemmas.{IsFeasible-push, unsaturated-lowered_by}
use Rattle.dual_ascent.specs.CostLaws.{left_after-le, slice_get-costs_of}

-- the packing is feasible, the costs are what it leaves, and each cut so far took the room of an arc
pub record IsUnderWay (g : Graph) (decision : Decided) (start packing : List Cut) (costs : List EdgeCosts) : Type 0 where
  pub feasible : IsFeasible g decision packing
  pub left : costs ≡ costs_of g.edges (states_of g decision) packing
  pub begins : BeginsWith packing start
  pub few : length packing + unsaturated costs ≤ 4 * length g.edges

-- a packing with one more cut begins with the same cuts
BeginsWith-push : (start packing : List Cut) (cut : Cut) → BeginsWith packing start → BeginsWith (packing ++ cut ∷ []) start
BeginsWith-push start packing cut (rest, is) = (rest ++ cut ∷ [], ap (λ cuts. cuts ++ cut ∷ []) is ∙ append_assoc start rest (cut ∷ []))

-- a set that parts a required vertex from the root is a cut
IsCut-from_parts : (g : Graph) (decision : Decided) (vertices : List ℕ) (members : List Bool) → AreRequired g decision vertices → Parts g vertices members → IsCut g decision members
IsCut-from_parts g decision vertices members are parts = grind (arith, All-contains)

-- one more cut
pub IsUnderWay-pack : (g : Graph) (decision : Decided) (start packing : List Cut) (costs : List EdgeCosts) (vertices : List ℕ) (cut : Cut) → AreRequired g decision vertices →
    IsUnderWay g decision start packing costs → IsNextCut g vertices costs cut → IsUnderWay g decision start (packing ++ cut ∷ []) (map (lowered_by cut) costs)
IsUnderWay-pack g decision start packing costs vertices cut are so_far next = record {
  feasible = IsFeasible-push g decision packing cut so_far.feasible next.weight (IsCut-from_parts g decision vertices cut.members are next.parts)
      (subst (λ rs. (left : ℕ) → Entering rs cut.members left → cut.weight ≤ left) so_far.left next.least.1);
  left = ap (map (lowered_by cut)) so_far.left ∙ map-lowered_by g.edges (states_of g decision) packing cut;
  begins = BeginsWith-push start packing cut so_far.begins;
  few = omega (arith, so_far.few, length-append packing (cut ∷ []), unsaturated-lowered_by cut costs next.weight next.least.0);
}

-- the costs show where saturated arcs lead
pub SaturatedLeads-iff_saturated : (g : Graph) (decision : Decided) (packing : List Cut) (costs : List EdgeCosts) → IsDecisionFor g decision → costs ≡ costs_of g.edges (states_of g decision) packing →
    (u v : ℕ) → SaturatedLeads g costs u v ↔ Leads (SaturatedStep g decision packing) u v
SaturatedLeads-iff_saturated g decision packing costs size are u v =
    let same = SaturatedStep-iff_open g decision packing size in
    let Full : ℕ → ℕ → Type 0 = OpenStep g.edges (is_saturated (costs_of g.edges (states_of g decision) packing)) in
    subst (λ rs. SaturatedLeads g rs u v ↔ Leads (SaturatedStep g decision packing) u v) (sym are) (
      Leads-weaker Full (SaturatedStep g decision packing) (λ x y. (same x y).0) u v,
      Leads-weaker (SaturatedStep g decision packing) Full (λ x y. (same x y).1) u v,
    )

-- a packing is maximal where full arcs lead from the root to each of the required vertices
pub IsMaximal-iff : (g : Graph) (decision : Decided) (packing : List Cut) (costs : List EdgeCosts) (vertices : List ℕ) → IsDecisionFor g decision →
    costs ≡ costs_of g.edges (states_of g decision) packing → AreRequired g decision vertices → All (SaturatedLeads g costs (root_of g)) vertices ↔ IsMaximal g decision packing
IsMaximal-iff g decision packing costs vertices size costs_are are =
    let same = SaturatedLeads-iff_saturated g decision packing costs size costs_are (root_of g) in (
      λ all v required. (same v).0 (All-contains (SaturatedLeads g costs (root_of g)) vertices v all (are.every v required)),
      λ maximal k d within. (same (get_or vertices k d)).1 (maximal (get_or vertices k d) (are.each k d within)),
    )

-- .. as marks of what they lead to show
pub IsMaximal-iff_marked : (g : Graph) (decision : Decided) (packing : List Cut) (costs : List EdgeCosts) (vertices : List ℕ) (marks : List Bool) (root : ℕ) (answer : Bool) → IsDecisionFor g decision →
    costs ≡ costs_of g.edges (states_of g decision) packing → AreRequired g decision vertices → root ≡ root_of g → ((v : ℕ) → (has marks v ≡ true) ↔ SaturatedLeads g costs root v) →
    (IsTrue answer ↔ All (λ v. has marks v ≡ true) vertices) → IsTrue answer ↔ IsMaximal g decision packing
IsMaximal-iff_marked g decision packing costs vertices marks root answer size costs_are are is flags all =
    let same = IsMaximal-iff g decision packing costs vertices size costs_are are in
    let led : (v : ℕ) → (has marks v ≡ true) ↔ SaturatedLeads g costs (root_of g) v = subst (λ r. (v : ℕ) → (has marks v ≡ true) ↔ SaturatedLeads g costs r v) is flags in (
      λ yes. same.0 (λ k d within. (led (get_or vertices k d)).0 (all.0 yes k d within)),
      λ maximal. all.1 (λ k d within. (led (get_or vertices k d)).1 (same.1 maximal k d within)),
    )

-- what a closing cut keeps and adds
pub record IsClosed (g : Graph) (decision : Decided) (start packing : List Cut) : Type 0 where
  pub feasible : IsFeasible g decision packing
  pub begins : BeginsWith packing start
  pub few : length packing ≤ 4 * length g.edges + 1
  pub value : total_of g ≤ packing_value g decision packing
  pub closing : (members : List Bool) × IsClosingCut g decision members

-- an arc within its room has some of it left, be it nothing
left_within : (state : EdgeState) (e : Edge) (amount : ℕ) → IsWithinRoom state e amount → (state ≡ Outside) ⊎ ((left : ℕ) × (left_after (room_of state e) amount ≡ Some left))
left_within Undecided e amount within = inr (e.length - amount, left_after-le e.length amount within)
left_within Inside e amount within = inr (0 - amount, left_after-le 0 amount within)
left_within Outside e amount within = inl refl

-- an edge with an arc that enters the set is free where no arc with a room does
free_where_closed : (g : Graph) (decision : Decided) (packing : List Cut) (members : List Bool) (n : ℕ) (e : Edge) → IsDecisionFor g decision → IsFeasible g decision packing →
    IsLeastOf (Entering (costs_of g.edges (states_of g decision) packing) members) None → slice_get g.edges n ≡ Some e →
    (enters members e.a e.b ≡ true) ⊎ (enters members e.b e.a ≡ true) → IsFree g decision n
free_where_closed g decision packing members n e size feasible none at enter =
    let states : List EdgeState = states_of g decision in
    let state : EdgeState = get_or states n Undecided in
    let decided : slice_get states n ≡ Some state =
    slice_get-get_or states n Undecided (omega (arith, slice_get_within g.edges n e at, length-states_of g decision size.edges)) in
    let costs : List EdgeCosts = costs_of g.edges states packing in
    let left : EdgeCosts = left_of e state packing in
    let here : slice_get costs n ≡ Some left = slice_get-costs_of g.edges states packing n e state at decided in
    let listed : Contains costs left = (n, slice_get_within costs n left here, get_or_from_slice_get costs n left left here) in
    let within = feasible.room n e state at decided in
    let free : state ≡ Outside → IsFree g decision n = λ is. states_of-free g decision n (decided ∙ ap (λ x. Some x) is) in
    ⊎_elim
    (λ (there : enters members e.a e.b ≡ true). ⊎_elim free
    (λ (some : (rest : ℕ) × (left.there ≡ Some rest)). absurd (none some.0 (left, listed, inl (there, some.1))))
    (left_within state e (load packing e.a e.b) within.0))
    (λ (back : enters members e.b e.a ≡ true). ⊎_elim free
    (λ (some : (rest : ℕ) × (left.back ≡ Some rest)). absurd (none some.0 (left, listed, inr (back, some.1))))
    (left_within state e (load packing e.b e.a) within.1))
    enter

-- a set that parts a required vertex from the root is a closing cut where no arc with a room enters it
IsClosingCut-from_parts : (g : Graph) (decision : Decided) (packing : List Cut) (vertices : List ℕ) (members : List Bool) → IsDecisionFor g decision → AreRequired g decision vertices →
    IsFeasible g decision packing → Parts g vertices members → IsLeastOf (Entering (costs_of g.edges (states_of g decision) packing) members) None → IsClosingCut g decision members
IsClosingCut-from_parts g decision packing vertices members size are feasible parts none =
    search (IsCut-from_parts, free_where_closed)

-- a set that only arcs of outside edges enter closes an ascent
pub IsClosed-from_under_way : (g : Graph) (decision : Decided) (start packing : List Cut) (costs : List EdgeCosts) (vertices : List ℕ) (members : List Bool) → IsDecisionFor g decision → AreRequired g decision vertices →
    IsUnderWay g decision start packing costs → Parts g vertices members → IsLeastOf (Entering costs members) None → IsClosed g decision start (closed_with g members packing)
IsClosed-from_under_way g decision start packing costs vertices members size are so_far parts none =
    let cut : Cut = record { weight = total_of g; members = members } in
    let closing : (set : List Bool) × IsClosingCut g decision set = (
      members,
      IsClosingCut-from_parts g decision packing vertices members size are so_far.feasible parts
          (subst (λ rs. IsLeastOf (Entering rs members) None) so_far.left none),
    ) in
    cond_both (eqb (total_of g) 0) packing (packing ++ cut ∷ []) (IsClosed g decision start)
    (λ empty. let nothing : total_of g ≡ 0 = eqb-true (total_of g) 0 empty in record {
      feasible = so_far.feasible;
      begins = so_far.begins;
      few = let few : length packing + unsaturated costs ≤ 4 * length g.edges = so_far.few in omega arith;
      value = omega arith;
      closing = closing;
    })
    (λ full. let some : 0 < total_of g = omega (arith, eqb-false (total_of g) 0 full) in record {
      feasible = IsFeasible-push g decision packing cut so_far.feasible some (IsCut-from_parts g decision vertices members are parts)
          (subst (λ rs. (left : ℕ) → Entering rs members left → total_of g ≤ left) so_far.left (λ left entering. absurd (none left entering)));
      begins = BeginsWith-push start packing cut so_far.begins;
      few = let few : length packing + unsaturated costs ≤ 4 * length g.edges = so_far.few in omega (arith, length-append packing (cut ∷ []));
      value = omega (arith, sum_by_push (λ (c : Cut). c.weight) packing cut);
      closing = closing;
    })
