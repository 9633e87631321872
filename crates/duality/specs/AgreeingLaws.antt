-- What an edge set that agrees with a decision reaches.
use Rattle.std.specs.Prelude.{ℕ, suc, ◌≡◌, ◌⊎◌, Bool, List, slice_get, Some}
use Rattle.std.proofs.Common.{inl, inr, ⊎_elim, refl, ◌∙◌, sym, subst}
use Rattle.std.proofs.lemmas.List.Elements.{All-contains}
use Rattle.std.proofs.lemmas.Option.{same_Some}
use Rattle.net_graph.specs.declared.edge.Edge.{Edge}
use Rattle.net_graph.specs.Graph.{Graph}
use Rattle.net_graph.specs.Network.{Links, Reaches, IsNetwork}
use Rattle.net_graph.specs.Decision.{Decided, Agrees, InRootPart, EndsInside, IsMet, IsRequired}

-- a walk goes on along an edge of the set
Reaches-from_link : (g : Graph) (set : List Bool) (v w : ℕ) → Links g set v w → Reaches g set v → Reaches g set w
Reaches-from_link g set v w link (n, walk) = (suc n, (v, walk, link))

-- both ends of an edge of the root part are reached
pub Reaches-from_root_part : (g : Graph) (set : List Bool) (n : ℕ) (e : Edge) → InRootPart g set n →
    slice_get g.edges n ≡ Some e → Reaches g set e.a × Reaches g set e.b
Reaches-from_root_part g set n e (own, in_set, at, reached) in_graph =
    let same : own ≡ e = same_Some own e (sym at ∙ in_graph) in
    let there : Links g set e.a e.b = (n, e, in_set, in_graph, inl (refl, refl)) in
    let back : Links g set e.b e.a = (n, e, in_set, in_graph, inr (refl, refl)) in
    let one : Reaches g set e.a ⊎ Reaches g set e.b = subst (λ x. Reaches g set x.a ⊎ Reaches g set x.b) same reached in
    ⊎_elim
    (λ a. (a, Reaches-from_link g set e.a e.b there a))
    (λ b. (Reaches-from_link g set e.b e.a back b, b))
    one

-- an end of an inside edge is reached
pub Reaches-from_inside : (g : Graph) (d : Decided) (set : List Bool) (v : ℕ) → Agrees g d set →
    EndsInside g d v → Reaches g set v
Reaches-from_inside g d set v agrees (n, e, inside, in_graph, ends) =
    let reached = Reaches-from_root_part g set n e (agrees.inside n inside) in_graph in
    ⊎_elim (λ a. subst (Reaches g set) a reached.0) (λ b. subst (Reaches g set) b reached.1) ends

-- each required vertex is reached
pub Reaches-from_required : (g : Graph) (d : Decided) (set : List Bool) (v : ℕ) → Agrees g d set → IsNetwork g set →
    IsRequired g d v → Reaches g set v
Reaches-from_required g d set v agrees network required =
    ⊎_elim
    (All-contains (Reaches g set) g.terminals v network)
    (λ (rest : EndsInside g d v ⊎ IsMet d v). ⊎_elim (Reaches-from_inside g d set v agrees) (agrees.met v) rest)
    required
