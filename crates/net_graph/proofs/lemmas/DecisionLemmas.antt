-- The ends of inside edges, by the arcs that lead from a vertex.
use Rattle.std.proofs.Common.{ℕ, ◌≡◌, ◌*◌, ◌+◌, ◌/◌, ◌<◌, ◌≤◌, inl, inr, List, length, get_or, slice_get, Some}
use Rattle.std.proofs.Common.{refl, sym, subst, arith}
use Rattle.std.proofs.lemmas.List.Elements.{All-contains}
use Rattle.net_graph.specs.declared.arcs.Arc.{Arc}
use Rattle.net_graph.specs.declared.state.EdgeState.TheVariants.{Inside}
use Rattle.net_graph.specs.Arcs.{IsArcOf, AreArcsFrom, forward_arc, backward_arc}
use Rattle.net_graph.specs.Graph.{Graph}
use Rattle.net_graph.specs.Decision.{Decided, EndsInside}

-- the arc is of an inside edge
abbrev pub IsOfInside : Decided → Arc → Type 0
IsOfInside d arc = slice_get d.edges (arc.number / 2) ≡ Some Inside

-- no arc among the first ones is
abbrev pub NoneInsideBelow : Decided → List Arc → ℕ → Type 0
NoneInsideBelow d arcs bound = (k : ℕ) (other : Arc) → k < bound → IsOfInside d (get_or arcs k other) → ⊥

-- from an end of an inside edge an arc of it leads
ends_inside-arc : (g : Graph) (d : Decided) (v : ℕ) → EndsInside g d v →
    (arc : Arc) × IsArcOf g.edges arc × (arc.from ≡ v) × IsOfInside d arc
ends_inside-arc g d v (n, e, inside, at, inl is) =
    let half : 2 * n / 2 ≡ n = omega arith in
    (forward_arc n e, (n, e, at, inl refl), is, subst (λ k. slice_get d.edges k ≡ Some Inside) (sym half) inside)
ends_inside-arc g d v (n, e, inside, at, inr is) =
    let half : (2 * n + 1) / 2 ≡ n = omega arith in
    (backward_arc n e, (n, e, at, inr refl), is, subst (λ k. slice_get d.edges k ≡ Some Inside) (sym half) inside)

-- where no arc that leads from a vertex is of an inside edge, it is an end of none
pub none-ends_inside : (g : Graph) (d : Decided) (v : ℕ) (arcs : List Arc) (count : ℕ) →
    AreArcsFrom (IsArcOf g.edges) v arcs → length arcs ≤ count → NoneInsideBelow d arcs count → EndsInside g d v → ⊥
none-ends_inside g d v arcs count are all none ends =
    let (arc, is, from, inside) = ends_inside-arc g d v ends in
    All-contains (λ (a : Arc). IsOfInside d a → ⊥) arcs arc (λ k other within. none k other (omega arith))
    (are.every arc is from) inside
