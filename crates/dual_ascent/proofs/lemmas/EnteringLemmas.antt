-- The arcs that enter a set, gathered one after another, and what a cut leaves of them.
use Rattle.std.proofs.Common.{ℕ, ◌≡◌, ◌≢◌, ◌+◌, ◌<◌, ◌≤◌, min, Bool, true, false, not, ◌&&◌, List, [], ◌∷◌, ◌++◌, map, length, get_or, slice_get, Option, Some, None, All, Contains, ◌⊎◌, inl, inr, ⊎_elim, refl, sym, ap, subst, ◌∙◌, arith}
use Rattle.std.proofs.lemmas.Bool.{cases_eq, cases_lt}
use Rattle.std.proofs.lemmas.List.{length-map, same_lists, get_or-map}
use Rattle.std.proofs.lemmas.List.Elements.{All-push, Contains-append_left, Contains-push, Contains-push_cases}
use Rattle.std.proofs.lemmas.Option.{same_Some, slice_get_within, slice_get-get_or, slice_get-map, get_or_from_slice_get}
use Rattle.net_graph.specs.declared.arcs.Arc.{Arc}
use Rattle.net_graph.specs.declared.edge.Edge.{Edge}
use Rattle.net_graph.specs.declared.packing.Cut.{Cut}
use Rattle.net_graph.specs.Arcs.{forward_arc, backward_arc, partner_of, IsArcOf, AreArcsFrom}
use Rattle.net_graph.specs.Flags.{has}
use Rattle.net_graph.specs.Graph.{Graph, IsGraph}
use Rattle.net_graph.specs.Joins.{slice_get-has}
use Rattle.net_graph.specs.Packing.{enters}
use Rattle.dual_ascent.specs.declared.costs.EdgeCosts.{EdgeCosts}
use Rattle.dual_ascent.specs.declared.entering.EnteringArc.{EnteringArc}
use Rattle.dual_ascent.specs.Costs.{left_after, raised_after, weight_on, lowered_by, raised_by, cost_of, edges_of, Entering, IsLeastOf}
use Rattle.dual_ascent.specs.Entering.{EntersLeft, AreEntering, AreEnteringBelow, IsLeftOfOne, turned}
use Rattle.dual_ascent.proofs.lemmas.ArcLemmas.{IsArcOf-below, cost_of-even, cost_of-odd, slice_get-edges_of, costs_at}

-- ---- arcs turned round

-- ---- the arcs at members of the set

ends_of : (x y : Bool) → y && not x ≡ true → (x ≡ false) × (y ≡ true)
ends_of x y holds = grind arith

-- an arc that enters leads from no member to a member
pub enters-ends : (members : List Bool) (u v : ℕ) → enters members u v ≡ true → (has members u ≡ false) × (has members v ≡ true)
enters-ends members u v entered = ends_of (has members u) (has members v) entered

-- it leads to a vertex within the set's size
entered_within : (members : List Bool) (u v : ℕ) → enters members u v ≡ true → v < length members
entered_within members u v entered = slice_get_within members v true (slice_get-has members v (enters-ends members u v entered).1)

-- where the vertices from one to another are no members
pub AreEnteringBelow-skip : (costs : List EdgeCosts) (members : List Bool) (v w : ℕ) (list : List EnteringArc) →
    AreEnteringBelow costs members v list → ((u : ℕ) → v ≤ u → u < w → has members u ≡ false) → AreEnteringBelow costs members w list
AreEnteringBelow-skip costs members v w list so_far apart = grind arith

-- when all members were gone over that are vertices of the graph
pub AreEnteringBelow-past : (g : Graph) (costs : List EdgeCosts) (members : List Bool) (v w : ℕ) (list : List EnteringArc) → IsGraph g →
    edges_of costs ≡ g.edges → min (length members) g.vertices ≤ v → AreEnteringBelow costs members v list → AreEnteringBelow costs members w list
AreEnteringBelow-past g costs members v w list graph edges past so_far = record {
  each = so_far.each;
  every = λ arc left below is_arc entered is.
      let vertex : arc.to < g.vertices = (IsArcOf-below g arc graph (subst (λ es. IsArcOf es arc) edges is_arc)).1 in
      let member : arc.to < length members = entered_within members arc.from arc.to entered in
      so_far.every arc left (omega arith) is_arc entered is;
}

-- when all of the set was gone over
pub AreEntering-all : (costs : List EdgeCosts) (members : List Bool) (v : ℕ) (list : List EnteringArc) → length members ≤ v →
    AreEnteringBelow costs members v list → AreEntering costs members list
AreEntering-all costs members v list all so_far = grind (arith, entered_within)

-- ---- the arcs at one member

-- the arcs that lead to a vertex below v, and those to v whose other arc was gone over
pub record EnteringSoFar (costs : List EdgeCosts) (members : List Bool) (v : ℕ) (gone : List Arc) (list : List EnteringArc) : Type 0 where
  pub each : All (EntersLeft costs members) list
  pub every : (arc : Arc) (left : ℕ) → (arc.to < v) ⊎ Contains gone (turned arc) → IsArcOf (edges_of costs) arc →
      enters members arc.from arc.to ≡ true → cost_of costs arc.number ≡ Some left →
      Contains list (record { arc = arc; left = left })

-- at the start
pub EnteringSoFar-none : (costs : List EdgeCosts) (members : List Bool) (v : ℕ) (list : List EnteringArc) →
    AreEnteringBelow costs members v list → EnteringSoFar costs members v [] list
EnteringSoFar-none costs members v list below = grind arith

-- what the other arc of one has
abbrev pub HasOnly : List EdgeCosts → List Bool → Arc → Option EnteringArc → Type 0
HasOnly costs members along found = (left : ℕ) → has members along.to ≡ false →
    cost_of costs (partner_of along.number) ≡ Some left → found ≡ Some (record { arc = turned along; left = left })

-- an arc whose other one has just been gone over was found
found_here : (costs : List EdgeCosts) (members : List Bool) (along arc : Arc) (left : ℕ) (found : Option EnteringArc) →
    HasOnly costs members along found → along ≡ turned arc → IsArcOf (edges_of costs) arc → enters members arc.from arc.to ≡ true →
    cost_of costs arc.number ≡ Some left → found ≡ Some (record { arc = arc; left = left })
found_here costs members along arc left found only same is_arc entered is =
    grind (arith, enters-ends members arc.from arc.to entered)

-- one more arc, whose other one doesn't enter or can't be saturated
pub EnteringSoFar-skip : (costs : List EdgeCosts) (members : List Bool) (v : ℕ) (gone : List Arc) (along : Arc) (list : List EnteringArc) →
    EnteringSoFar costs members v gone list → HasOnly costs members along None → EnteringSoFar costs members v (gone ++ along ∷ []) list
EnteringSoFar-skip costs members v gone along list so_far only = record {
  each = so_far.each;
  every = λ arc left among is_arc entered is. ⊎_elim
      (λ below. so_far.every arc left (inl below) is_arc entered is)
      (λ listed. ⊎_elim
      (λ earlier. so_far.every arc left (inr earlier) is_arc entered is)
      (λ here. let found : None ≡ Some (record { arc = arc; left = left }) = found_here costs members along arc left None only here is_arc entered is in absurd cc)
      (Contains-push_cases gone along (turned arc) listed))
      among;
}

-- one more, whose other one is listed
pub EnteringSoFar-push : (costs : List EdgeCosts) (members : List Bool) (v : ℕ) (gone : List Arc) (along : Arc) (list : List EnteringArc) (one : EnteringArc) →
    EnteringSoFar costs members v gone list → EntersLeft costs members one → HasOnly costs members along (Some one) →
    EnteringSoFar costs members v (gone ++ along ∷ []) (list ++ one ∷ [])
EnteringSoFar-push costs members v gone along list one so_far own only = record {
  each = All-push (EntersLeft costs members) list one so_far.each own;
  every = λ arc left among is_arc entered is.
      let kept = Contains-append_left list (one ∷ []) (record { arc = arc; left = left }) in
      ⊎_elim
      (λ below. kept (so_far.every arc left (inl below) is_arc entered is))
      (λ listed. ⊎_elim
      (λ earlier. kept (so_far.every arc left (inr earlier) is_arc entered is))
      (λ here. let same : one ≡ record { arc = arc; left = left } = same_Some one (record { arc = arc; left = left })
      (found_here costs members along arc left (Some one) only here is_arc entered is) in
      subst (Contains (list ++ one ∷ [])) same (Contains-push list one))
      (Contains-push_cases gone along (turned arc) listed))
      among;
}

-- when all arcs from the member were gone over
pub EnteringSoFar-all : (costs : List EdgeCosts) (members : List Bool) (v : ℕ) (arcs : List Arc) (list : List EnteringArc) →
    AreArcsFrom (IsArcOf (edges_of costs)) v arcs → EnteringSoFar costs members v arcs list → AreEnteringBelow costs members (v + 1) list
EnteringSoFar-all costs members v arcs list from so_far = record {
  each = so_far.each;
  every = λ arc left below is_arc entered is. ⊎_elim
      (λ (earlier : arc.to < v). so_far.every arc left (inl earlier) is_arc entered is)
      (λ (later : v ≤ arc.to).
      let here : arc.to ≡ v = omega arith in
      so_far.every arc left (inr (from.every (turned arc) (grind arith) here)) is_arc entered is)
      (cases_lt arc.to v);
}

-- ---- what a cut leaves of them

-- what is left of these arcs was changed by the weight
pub record ChangedSoFar (after : Option ℕ → ℕ → Option ℕ) (before : List EdgeCosts) (weight : ℕ) (list : List EnteringArc) (now : List EdgeCosts) : Type 0 where
  pub edges : edges_of now ≡ edges_of before
  pub changed : All (λ e. cost_of now e.arc.number ≡ after (cost_of before e.arc.number) weight) list
  pub others : (n : ℕ) → (cost_of now n ≡ cost_of before n) ⊎ ((e : EnteringArc) × Contains list e × (e.arc.number ≡ n))

-- of none
pub ChangedSoFar-none : (after : Option ℕ → ℕ → Option ℕ) (before : List EdgeCosts) (weight : ℕ) → ChangedSoFar after before weight [] before
ChangedSoFar-none after before weight = grind arith

-- of one more
pub ChangedSoFar-more : (after : Option ℕ → ℕ → Option ℕ) (before now next : List EdgeCosts) (weight : ℕ) (list : List EnteringArc) (e : EnteringArc) →
    ChangedSoFar after before weight list now → cost_of next e.arc.number ≡ after (cost_of before e.arc.number) weight →
    edges_of next ≡ edges_of now → ((n : ℕ) → n ≢ e.arc.number → cost_of next n ≡ cost_of now n) →
    ChangedSoFar after before weight (list ++ e ∷ []) next
ChangedSoFar-more after before now next weight list e so_far here edges others =
    let P : EnteringArc → Type 0 = λ f. cost_of next f.arc.number ≡ after (cost_of before f.arc.number) weight in
    record {
      edges = edges ∙ so_far.edges;
      changed = All-push P list e
          (λ k d lt. let f : EnteringArc = get_or list k d in ⊎_elim
          (λ (same : f.arc.number ≡ e.arc.number). subst (λ n. cost_of next n ≡ after (cost_of before n) weight) (sym same) here)
          (λ (apart : f.arc.number ≢ e.arc.number). others f.arc.number apart ∙ so_far.changed k d lt)
          (cases_eq f.arc.number e.arc.number)) here;
      others = λ n. ⊎_elim
          (λ (same : n ≡ e.arc.number). inr (e, Contains-push list e, sym same))
          (λ (apart : n ≢ e.arc.number). ⊎_elim
          (λ kept. inl (others n apart ∙ kept))
          (λ (f, listed, is). inr (f, Contains-append_left list (e ∷ []) f listed, is)) (so_far.others n))
          (cases_eq n e.arc.number);
    }

-- no load takes nothing
pub left_after-zero : (cost : Option ℕ) → left_after cost 0 ≡ cost
left_after-zero cost = grind arith

-- what is left of the arcs that enter the cut was changed by its weight, and of no others
cost_of-changed_so_far : (after : Option ℕ → ℕ → Option ℕ) → ((weight : ℕ) → after None weight ≡ None) → ((cost : Option ℕ) → after cost 0 ≡ cost) →
    (before now : List EdgeCosts) (cut : Cut) (list : List EnteringArc) → AreEntering before cut.members list → ChangedSoFar after before cut.weight list now →
    (arc : Arc) → IsArcOf (edges_of before) arc → cost_of now arc.number ≡ after (cost_of before arc.number) (weight_on cut arc.from arc.to)
cost_of-changed_so_far after gone unchanged before now cut list are so_far arc is_arc = grind arith

-- what a cut makes of an edge's costs, where it changes what is left of an arc so
abbrev changed_by : (Option ℕ → ℕ → Option ℕ) → Cut → EdgeCosts → EdgeCosts
changed_by after cut room = record {
  edge = room.edge;
  there = after room.there (weight_on cut room.edge.a room.edge.b);
  back = after room.back (weight_on cut room.edge.b room.edge.a);
}

-- so all arcs were changed by what the cut loads onto them
changed_is : (after : Option ℕ → ℕ → Option ℕ) → ((weight : ℕ) → after None weight ≡ None) → ((cost : Option ℕ) → after cost 0 ≡ cost) →
    (before now : List EdgeCosts) (cut : Cut) (list : List EnteringArc) → AreEntering before cut.members list → ChangedSoFar after before cut.weight list now → now ≡ map (changed_by after cut) before
changed_is after gone unchanged before now cut list are so_far =
    let size : length now ≡ length before = omega (arith, ap length so_far.edges, length-map now (λ (x : EdgeCosts). x.edge), length-map before (λ (x : EdgeCosts). x.edge)) in
    same_lists now (map (changed_by after cut) before) (omega (arith, size, length-map before (changed_by after cut))) (λ k d lt.
    let low : k < length before = omega (arith, size) in
    let n : EdgeCosts = get_or now k d in
    let b : EdgeCosts = get_or before k d in
    let at_now : slice_get now k ≡ Some n = slice_get-get_or now k d lt in
    let at : slice_get before k ≡ Some b = slice_get-get_or before k d low in
    let at_edge : slice_get (edges_of before) k ≡ Some b.edge = slice_get-edges_of before k b at in
    let edge : n.edge ≡ b.edge = same_Some n.edge b.edge (sym (slice_get-edges_of now k n at_now) ∙ ap (λ es. slice_get es k) so_far.edges ∙ at_edge) in
    let there : n.there ≡ after b.there (weight_on cut b.edge.a b.edge.b) =
    sym (cost_of-even now k n at_now) ∙ cost_of-changed_so_far after gone unchanged before now cut list are so_far (forward_arc k b.edge) (k, b.edge, at_edge, inl refl) ∙ ap (λ c. after c (weight_on cut b.edge.a b.edge.b)) (cost_of-even before k b at) in
    let back : n.back ≡ after b.back (weight_on cut b.edge.b b.edge.a) =
    sym (cost_of-odd now k n at_now) ∙ cost_of-changed_so_far after gone unchanged before now cut list are so_far (backward_arc k b.edge) (k, b.edge, at_edge, inr refl) ∙ ap (λ c. after c (weight_on cut b.edge.b b.edge.a)) (cost_of-odd before k b at) in
    let same : n ≡ changed_by after cut b = grind arith in
    same ∙ sym (get_or-map (changed_by after cut) before k d d low))

-- what all arcs lost is what the cut takes
pub lowered_is : (before now : List EdgeCosts) (cut : Cut) (list : List EnteringArc) → AreEntering before cut.members list →
    ChangedSoFar left_after before cut.weight list now → now ≡ map (lowered_by cut) before
lowered_is = changed_is left_after (λ weight. refl) left_after-zero

-- .. and what they gained is what it gives back
pub raised_is : (before now : List EdgeCosts) (cut : Cut) (list : List EnteringArc) → AreEntering before cut.members list →
    ChangedSoFar raised_after before cut.weight list now → now ≡ map (raised_by cut) before
raised_is = changed_is raised_after (λ weight. refl) (grind arith)

-- what the cut leaves of an arc
pub cost_of-lowered : (costs : List EdgeCosts) (cut : Cut) (arc : Arc) → IsArcOf (edges_of costs) arc →
    cost_of (map (lowered_by cut) costs) arc.number ≡ left_after (cost_of costs arc.number) (weight_on cut arc.from arc.to)
cost_of-lowered costs cut arc (n, e, at, way) =
    grind (arith, costs_at costs n e, slice_get-map (lowered_by cut) costs n, cost_of-even, cost_of-odd)

-- an arc that enters is one of those of an edge
pub Entering-from_arc : (costs : List EdgeCosts) (members : List Bool) (arc : Arc) (left : ℕ) → IsArcOf (edges_of costs) arc → enters members arc.from arc.to ≡ true → cost_of costs arc.number ≡ Some left → Entering costs members left
Entering-from_arc costs members arc left (n, e, at, way) entered is =
    let (c, here, edge) = costs_at costs n e at in
    let found : Contains costs c = (n, slice_get_within costs n c here, get_or_from_slice_get costs n c c here) in
    ⊎_elim
    (λ (along : arc ≡ forward_arc n e).
    let from : arc.from ≡ c.edge.a = ap (λ (x : Arc). x.from) along ∙ sym (ap (λ (x : Edge). x.a) edge) in
    let to : arc.to ≡ c.edge.b = ap (λ (x : Arc). x.to) along ∙ sym (ap (λ (x : Edge). x.b) edge) in
    let cost : c.there ≡ Some left = sym (cost_of-even costs n c here) ∙ ap (cost_of costs) (sym (ap (λ (x : Arc). x.number) along)) ∙ is in
    (c, found, inl (subst (λ v. enters members c.edge.a v ≡ true) to (subst (λ u. enters members u arc.to ≡ true) from entered), cost)))
    (λ (against : arc ≡ backward_arc n e).
    let from : arc.from ≡ c.edge.b = ap (λ (x : Arc). x.from) against ∙ sym (ap (λ (x : Edge). x.b) edge) in
    let to : arc.to ≡ c.edge.a = ap (λ (x : Arc). x.to) against ∙ sym (ap (λ (x : Edge). x.a) edge) in
    let cost : c.back ≡ Some left = sym (cost_of-odd costs n c here) ∙ ap (cost_of costs) (sym (ap (λ (x : Arc). x.number) against)) ∙ is in
    (c, found, inr (subst (λ v. enters members c.edge.b v ≡ true) to (subst (λ u. enters members u arc.to ≡ true) from entered), cost)))
    way

-- .. and the other way round
pub arc_from_Entering : (costs : List EdgeCosts) (members : List Bool) (left : ℕ) → Entering costs members left →
    (arc : Arc) × IsArcOf (edges_of costs) arc × (enters members arc.from arc.to ≡ true) × (cost_of costs arc.number ≡ Some left)
arc_from_Entering costs members left (c, (k, below, is), ways) =
    let here : slice_get costs k ≡ Some c = slice_get-get_or costs k c below ∙ ap Some is in
    let at : slice_get (edges_of costs) k ≡ Some c.edge = slice_get-edges_of costs k c here in
    ⊎_elim
    (λ (there : (enters members c.edge.a c.edge.b ≡ true) × (c.there ≡ Some left)). (forward_arc k c.edge, (k, c.edge, at, inl refl), there.0, cost_of-even costs k c here ∙ there.1))
    (λ (back : (enters members c.edge.b c.edge.a ≡ true) × (c.back ≡ Some left)). (backward_arc k c.edge, (k, c.edge, at, inr refl), back.0, cost_of-odd costs k c here ∙ back.1))
    ways

-- what is left of one of the listed arcs is left of one that enters
left_enters : (costs : List EdgeCosts) (members : List Bool) (list : List EnteringArc) (left : ℕ) → AreEntering costs members list → IsLeftOfOne list left → Entering costs members left
left_enters costs members list left are (e, listed, is) = grind (arith, Entering-from_arc)

-- .. and the other way round
entering_listed : (costs : List EdgeCosts) (members : List Bool) (list : List EnteringArc) (left : ℕ) → AreEntering costs members list → Entering costs members left → IsLeftOfOne list left
entering_listed costs members list left are entering =
    let (arc, is_arc, entered, is) = arc_from_Entering costs members left entering in
    (record { arc = arc; left = left }, are.every arc left is_arc entered is, refl)

-- the least that is left of a listed arc is the least of those that enter
pub IsLeastOf-entering : (costs : List EdgeCosts) (members : List Bool) (list : List EnteringArc) (least : Option ℕ) → AreEntering costs members list → IsLeastOf (IsLeftOfOne list) least → IsLeastOf (Entering costs members) least
IsLeastOf-entering costs members list None are none = λ n entering. none n (entering_listed costs members list n are entering)
IsLeastOf-entering costs members list (Some least) are (one, low) = search (left_enters, entering_listed)

-- the edges stay
pub edges_of-lowered : (costs : List EdgeCosts) (cut : Cut) → edges_of (map (lowered_by cut) costs) ≡ edges_of costs
edges_of-lowered [] cut = refl
edges_of-lowered (c ∷ costs) cut = ap (λ es. c.edge ∷ es) (edges_of-lowered costs cut)
