-- What one more cut loads, and what it leaves of the costs.
use Rattle.std.proofs.Common.{ℕ, ◌≡◌, ◌+◌, ◌-◌, List, [], ◌∷◌, ◌++◌, map, length, Option, Some, refl, ap, arith}
use Rattle.std.proofs.lemmas.List.Sums.{sum_by_push}
use Rattle.net_graph.specs.declared.edge.Edge.{Edge}
use Rattle.net_graph.specs.declared.state.EdgeState.{EdgeState}
use Rattle.net_graph.specs.declared.packing.Cut.{Cut}
use Rattle.net_graph.specs.Packing.{load}
use Rattle.dual_ascent.specs.declared.costs.EdgeCosts.{EdgeCosts}
use Rattle.dual_ascent.specs.Costs.{left_after, weight_on, left_of, costs_of, lowered_by}
use Rattle.dual_ascent.specs.CostLaws.{left_after-le, left_after-lt}

-- a load and then another one
pub left_after-left_after : (room : Option ℕ) (m n : ℕ) → left_after (left_after room m) n ≡ left_after room (m + n)
left_after-left_after room m n = grind (arith, left_after-lt, left_after-le)

-- nothing is left where the load is the room
pub left_after-same : (room : Option ℕ) (amount : ℕ) → room ≡ Some amount → left_after room amount ≡ Some 0
left_after-same room amount is = grind arith

-- the load of one more cut
pub load-push : (packing : List Cut) (cut : Cut) (u v : ℕ) → load (packing ++ cut ∷ []) u v ≡ load packing u v + weight_on cut u v
load-push packing cut u v = sum_by_push (λ (c : Cut). weight_on c u v) packing cut

-- what one more cut leaves of an arc
left_after-push : (room : Option ℕ) (packing : List Cut) (cut : Cut) (u v : ℕ) →
    left_after (left_after room (load packing u v)) (weight_on cut u v) ≡ left_after room (load (packing ++ cut ∷ []) u v)
left_after-push room packing cut u v = search (left_after-left_after, load-push)

-- .. of an edge
pub lowered_by-left_of : (e : Edge) (state : EdgeState) (packing : List Cut) (cut : Cut) → lowered_by cut (left_of e state packing) ≡ left_of e state (packing ++ cut ∷ [])
lowered_by-left_of e state packing cut = search left_after-push

-- .. of all edges
pub map-lowered_by : (edges : List Edge) (decision : List EdgeState) (packing : List Cut) (cut : Cut) →
    map (lowered_by cut) (costs_of edges decision packing) ≡ costs_of edges decision (packing ++ cut ∷ [])
map-lowered_by [] decision packing cut = refl
map-lowered_by (e ∷ edges) [] packing cut = refl
map-lowered_by (e ∷ edges) (state ∷ decision) packing cut =
    search (lowered_by-left_of, map-lowered_by edges decision packing cut)

-- the costs are those of the graph's edges
pub edges-costs_of : (edges : List Edge) (decision : List EdgeState) (packing : List Cut) → length decision ≡ length edges → map (λ (room : EdgeCosts). room.edge) (costs_of edges decision packing) ≡ edges
edges-costs_of [] decision packing size = refl
edges-costs_of (e ∷ edges) [] packing size = absurd (omega arith)
edges-costs_of (e ∷ edges) (state ∷ decision) packing size = ap (λ rest. e ∷ rest) (edges-costs_of edges decision packing (omega arith))
