-- The arcs of edges, and what is left of them.
use Rattle.std.proofs.Common.{ℕ, ◌≡◌, ◌≢◌, ◌+◌, ◌*◌, ◌/◌, ◌<◌, List, length, get_or, set, slice_get, Option, Some, None, sym, ap, ◌∙◌, arith}
use Rattle.std.specs.Option.{option_map}
use Rattle.std.proofs.lemmas.Bool.{cases_eq, cases_lt}
use Rattle.std.proofs.lemmas.List.{length-set, length-map, get_or-set_same, get_or-set_other}
use Rattle.std.proofs.lemmas.Option.{same_Some, slice_get_within, slice_get_past, slice_get-get_or, get_or_from_slice_get, slice_get-map}
use Rattle.net_graph.specs.declared.arcs.Arc.{Arc}
use Rattle.net_graph.specs.declared.edge.Edge.{Edge}
use Rattle.net_graph.specs.Arcs.{IsArcOf}
use Rattle.net_graph.specs.Graph.{Graph, IsGraph}
use Rattle.dual_ascent.specs.declared.costs.EdgeCosts.{EdgeCosts}
use Rattle.dual_ascent.specs.Costs.{cost_of, with_cost, edges_of}

-- an arc's number is below twice the number of edges
pub IsArcOf-number : (edges : List Edge) (x : Arc) → IsArcOf edges x → x.number < 2 * length edges
IsArcOf-number edges x (n, e, at, way) = grind (arith, slice_get_within edges n e)

-- an arc leads from a vertex to a vertex
pub IsArcOf-below : (g : Graph) (x : Arc) → IsGraph g → IsArcOf g.edges x → (x.from < g.vertices) × (x.to < g.vertices)
IsArcOf-below g x graph (n, e, at, way) =
    grind (arith, get_or_from_slice_get g.edges n e e, graph.ends n e (slice_get_within g.edges n e at), slice_get_within g.edges n e)

-- what is left of an edge's first arc
pub cost_of-even : (costs : List EdgeCosts) (n : ℕ) (c : EdgeCosts) → slice_get costs n ≡ Some c → cost_of costs (2 * n) ≡ c.there
cost_of-even costs n c at = grind arith

-- .. and of its second
pub cost_of-odd : (costs : List EdgeCosts) (n : ℕ) (c : EdgeCosts) → slice_get costs n ≡ Some c → cost_of costs (2 * n + 1) ≡ c.back
cost_of-odd costs n c at = grind arith

-- the edge of the costs at a place
pub slice_get-edges_of : (costs : List EdgeCosts) (n : ℕ) (c : EdgeCosts) → slice_get costs n ≡ Some c → slice_get (edges_of costs) n ≡ Some c.edge
slice_get-edges_of costs n c at = slice_get-map (λ (x : EdgeCosts). x.edge) costs n ∙ ap (option_map (λ (x : EdgeCosts). x.edge)) at

-- the costs of an edge
pub costs_at : (costs : List EdgeCosts) (n : ℕ) (e : Edge) → slice_get (edges_of costs) n ≡ Some e → (c : EdgeCosts) × (slice_get costs n ≡ Some c) × (c.edge ≡ e)
costs_at costs n e at =
    let none : EdgeCosts = record { edge = e; there = None; back = None } in
    let within : n < length costs = omega (arith, slice_get_within (edges_of costs) n e at, length-map costs (λ (x : EdgeCosts). x.edge)) in
    let c : EdgeCosts = get_or costs n none in
    let here : slice_get costs n ≡ Some c = slice_get-get_or costs n none within in
    (c, here, same_Some c.edge e (sym (slice_get-edges_of costs n c here) ∙ at))

-- a place that was not written
slice_get-set_apart : (costs : List EdgeCosts) (n k : ℕ) (c d : EdgeCosts) → k ≢ n → slice_get (set costs n c) k ≡ slice_get costs k
slice_get-set_apart costs n k c d apart =
    grind (arith, slice_get-get_or, length-set costs n c, get_or-set_other costs n k c d apart, slice_get_past, cases_lt k (length costs))

-- what is left of the arc that was changed
pub cost_of-set_same : (costs : List EdgeCosts) (arc : ℕ) (cost : Option ℕ) (d : EdgeCosts) → arc / 2 < length costs →
    cost_of (set costs (arc / 2) (with_cost (get_or costs (arc / 2) d) arc cost)) arc ≡ cost
cost_of-set_same costs arc cost d within =
    grind (
      arith,
      slice_get-get_or,
      length-set costs (arc / 2) (with_cost (get_or costs (arc / 2) d) arc cost),
      get_or-set_same costs (arc / 2) (with_cost (get_or costs (arc / 2) d) arc cost) d within,
    )

-- .. and of another one
pub cost_of-set_other : (costs : List EdgeCosts) (arc other : ℕ) (cost : Option ℕ) (d : EdgeCosts) → arc / 2 < length costs → other ≢ arc →
    cost_of (set costs (arc / 2) (with_cost (get_or costs (arc / 2) d) arc cost)) other ≡ cost_of costs other
cost_of-set_other costs arc other cost d within apart =
    grind (
      arith,
      slice_get-get_or,
      length-set costs (arc / 2) (with_cost (get_or costs (arc / 2) d) arc cost),
      get_or-set_same costs (arc / 2) (with_cost (get_or costs (arc / 2) d) arc cost) d within,
      slice_get-get_or costs (arc / 2) d within,
      slice_get-set_apart,
      cases_eq (other / 2) (arc / 2),
    )
