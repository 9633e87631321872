-- What stays as it is where one more edge or vertex is decided: what was required is required, and what is undecided
-- was undecided.
use Rattle.std.specs.Prelude.{ℕ, ◌≡◌, ◌⊎◌, true, false, slice_get, Some}
use Rattle.std.proofs.Common.{sym, ap, ◌∙◌, inl, inr, ⊎_elim, arith}
use Rattle.std.proofs.lemmas.Bool.{cases_eq}
use Rattle.std.proofs.lemmas.Option.{same_Some}
use Rattle.net_graph.specs.declared.edge.Edge.{Edge}
use Rattle.net_graph.specs.declared.state.EdgeState.{EdgeState}
use Rattle.net_graph.specs.declared.state.EdgeState.TheVariants.{Undecided, Inside}
use Rattle.net_graph.specs.declared.state.VertexState.{VertexState}
use Rattle.net_graph.specs.Graph.{Graph}
use Rattle.net_graph.specs.Decision.{Decided, IsMissed, IsRequired, IsUndecided, IsVertexUndecided, with_edge, with_vertex, has_missed_end}
use Rattle.net_graph.specs.DecisionLaws.{IsRequired-fewer, has_missed_end-iff, state_at_ends-undecided, states_of-at, states_of-parts, states_of-from_kept}
use Rattle.net_graph.specs.EntryLaws.{slice_get-set_other}

-- what was required is so where one more edge is decided
pub IsRequired-with_edge : (g : Graph) (d : Decided) (n v : ℕ) (state : EdgeState) → IsUndecided g d n →
    IsRequired g d v → IsRequired g (with_edge d n state) v
IsRequired-with_edge g d n v state undecided required =
    IsRequired-fewer g d (with_edge d n state) v inside (λ met. met) required
  where
    inside : (k : ℕ) → slice_get d.edges k ≡ Some Inside → slice_get (with_edge d n state).edges k ≡ Some Inside
    inside k is = elim (cases_eq k n) [
      | inl here ↦
          let same : Undecided ≡ Inside =
          same_Some _ _ (sym (grind (arith, states_of-parts g d n Undecided undecided, state_at_ends-undecided))
          ∙ ap (slice_get d.edges) (sym here) ∙ is) in cc
      | inr apart ↦ slice_get-set_other d.edges n k state apart ∙ is
    ]

-- .. and where one more vertex is
pub IsRequired-with_vertex : (g : Graph) (d : Decided) (v w : ℕ) (state : VertexState) → IsVertexUndecided g d v →
    IsRequired g d w → IsRequired g (with_vertex d v state) w
IsRequired-with_vertex g d v w state undecided required =
    grind (arith, cases_eq w v, IsRequired-fewer, slice_get-set_other)

-- an edge that is undecided where one more edge is decided was so before
pub IsUndecided-before_edge : (g : Graph) (d : Decided) (n k : ℕ) (state : EdgeState) → IsUndecided g d n →
    IsUndecided g (with_edge d n state) k → IsUndecided g d k
IsUndecided-before_edge g d n k state undecided is =
    grind (
      arith,
      cases_eq k n,
      states_of-parts g (with_edge d n state) k Undecided is,
      states_of-at,
      slice_get-set_other,
    )

-- .. and so was one that is undecided where one more vertex is decided
pub IsUndecided-before_vertex : (g : Graph) (d : Decided) (v k : ℕ) (state : VertexState) → IsVertexUndecided g d v →
    IsUndecided g (with_vertex d v state) k → IsUndecided g d k
IsUndecided-before_vertex g d v k state undecided is =
    let (e, bare, at, decided, so) = states_of-parts g (with_vertex d v state) k Undecided is in
    let now = state_at_ends-undecided (with_vertex d v state).vertices e bare so in
    states_of-from_kept g d k e at (decided ∙ ap Some now.0) (λ missed. ends e now.1 missed)
  where
    still : (w : ℕ) → IsMissed d w → IsMissed (with_vertex d v state) w
    still w missed = elim (cases_eq w v) [
      | inl here ↦ absurd (undecided.not_missed (ap (slice_get d.vertices) (sym here) ∙ missed))
      | inr apart ↦ slice_get-set_other d.vertices v w state apart ∙ missed
    ]

    ends : (e : Edge) → has_missed_end (with_vertex d v state).vertices e ≡ false → IsMissed d e.a ⊎ IsMissed d e.b → ⊥
    ends e kept missed =
        let found : has_missed_end (with_vertex d v state).vertices e ≡ true =
        (has_missed_end-iff (with_vertex d v state) e).1
        (⊎_elim (λ (a : IsMissed d e.a). inl (still e.a a)) (λ (b : IsMissed d e.b). inr (still e.b b)) missed) in
        cc
