-- The bounds of a grid's edges, one more at a time.
use Rattle.std.proofs.Common.{ℕ, ◌≡◌, ◌+◌, ◌<◌, ◌≤◌, List, [], ◌∷◌, ◌++◌, Result, Ok, Err, IfOk, length, length-append, get_or, inl, inr, sym, ap, subst, ◌∙◌, arith}
use Rattle.std.proofs.lemmas.Bool.{cases_lt}
use Rattle.std.proofs.lemmas.List.{get_or_append_left, get_or_push}
use Rattle.net_graph.specs.declared.packing.Cut.{Cut}
use Rattle.net_graph.specs.Graph.{Graph, total_of}
use Rattle.net_graph.specs.Packing.{packing_value}
use Rattle.edge_slack.specs.EdgeBound.{edge_taken_in, IsEdgeBound, IsLowerBoundWith}
use Rattle.slack_tools.specs.Bounds.{BoundsEdge}

-- what is known of the value of a packing that takes the edge in
pub BoundsEdge-packing : (g grid : Graph) (e value : ℕ) (packing : List Cut) → g ≡ grid →
    value ≡ packing_value g (edge_taken_in g e) packing →
    IsEdgeBound g e (packing_value g (edge_taken_in g e) packing) →
    IsLowerBoundWith g e (packing_value g (edge_taken_in g e) packing) →
    packing_value g (edge_taken_in g e) packing ≤ total_of g → BoundsEdge grid e value
BoundsEdge-packing g grid e value packing of is bound least within =
    let all : BoundsEdge g e (packing_value g (edge_taken_in g e) packing) =
    record { value = bound; least = least; within = within } in
    subst (λ x. BoundsEdge x e value) of (subst (BoundsEdge g e) (sym is) all)

-- what is known of a bound that may have been found
pub BoundsEdge-found : {E : Type 0} (g grid : Graph) (e : ℕ) (found : Result ℕ E) → g ≡ grid →
    IfOk found (IsEdgeBound g e) → IfOk found (IsLowerBoundWith g e) → IfOk found (λ v. v ≤ total_of g) →
    IfOk found (BoundsEdge grid e)
BoundsEdge-found g grid e (Ok v) of bound least within =
    subst (λ x. BoundsEdge x e v) of (record { value = bound; least = least; within = within })
BoundsEdge-found g grid e (Err memory) of bound least within = tt

-- one bound more
pub bounds_more : (g : Graph) (before after : List ℕ) (n bound : ℕ) → after ≡ before ++ bound ∷ [] → length before ≡ n →
    BoundsEdge g n bound → ((e : ℕ) → e < n → BoundsEdge g e (get_or before e 0)) →
    (length after ≡ n + 1) × ((e : ℕ) → e < n + 1 → BoundsEdge g e (get_or after e 0))
bounds_more g before after n bound is count here each = (
  omega (arith, ap length is, length-append before (bound ∷ [])),
  λ e below. elim (cases_lt e n) [
    | inl low ↦
        subst (BoundsEdge g e)
        (sym (ap (λ xs. get_or xs e 0) is ∙ get_or_append_left before (bound ∷ []) 0 e (omega arith))) (each e low)
    | inr high ↦
        let same : n ≡ e = omega arith in
        subst (λ k. BoundsEdge g k (get_or after k 0)) same
        (subst (BoundsEdge g n) (sym (ap (λ xs. get_or xs n 0) is ∙ get_or_push before bound 0 n count)) here)
  ],
)
