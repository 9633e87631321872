-- A packing of nothing decided is carried to the decision that takes one edge in.
use Rattle.std.proofs.Common.{ℕ, zero, suc, ◌≡◌, ◌+◌, ◌<◌, ◌≤◌, List, [], ◌∷◌, ◌++◌, length, replicate, slice_get, slice_set, Some, sum_by, inl, refl, sym, ap, subst, ◌∙◌, append-nil, arith}
use Rattle.std.proofs.lemmas.List.Sums.{sum_by-append}
use Rattle.std.proofs.lemmas.Option.{same_Some, slice_get_within}
use Rattle.net_graph.specs.declared.packing.Cut.{Cut}
use Rattle.net_graph.specs.declared.edge.Edge.{Edge}
use Rattle.net_graph.specs.declared.state.EdgeState.{EdgeState}
use Rattle.net_graph.specs.declared.state.EdgeState.TheVariants.{Undecided, Inside}
use Rattle.net_graph.specs.Graph.{Graph, total_of}
use Rattle.net_graph.specs.Decision.{Decided, IsLowerBoundUnder, IsUndecided, nothing_decided, with_edge}
use Rattle.net_graph.specs.Packing.{IsFeasible, inside_length, packing_value}
use Rattle.dual_ascent.specs.declared.ascent.Ascent.{Ascent}
use Rattle.dual_ascent.specs.declared.costs.EdgeCosts.{EdgeCosts}
use Rattle.dual_ascent.specs.Ascending.{AreLeftBehind, IsAscent, behind}
use Rattle.dual_ascent.specs.Carried.{DecidesOneMore}
use Rattle.dual_ascent.specs.Costs.{costs_of, edges_of}
use Rattle.edge_slack.specs.EdgeBound.{edge_taken_in, IsEdgeBound, IsInSomeNetwork, IsLowerBoundWith}
use Rattle.edge_slack.proofs.EdgeBoundLemmas.{IsLowerBoundWith-under, IsMaximal-not_closed, IsUndecided-nothing, bound-le-total}

-- an edge that some network uses is one of the graph's
pub within-from_use : (g : Graph) (e : ℕ) → IsInSomeNetwork g e → e < length g.edges
within-from_use g e (set, network, (edge, in_set, at, reached)) = slice_get_within g.edges e edge at

-- that decision decides one edge more than the one that decides nothing
pub DecidesOneMore-taken_in : (g : Graph) (before now : Decided) (e : ℕ) → IsInSomeNetwork g e →
    before ≡ nothing_decided g → now ≡ edge_taken_in g e → DecidesOneMore g before now
DecidesOneMore-taken_in g before now e some none taken = inl (
  e,
  Inside,
  subst (λ d. IsUndecided g d e) (sym none) (IsUndecided-nothing g e (within-from_use g e some)),
  taken ∙ ap (λ d. with_edge d e Inside) (sym none),
)

-- the edges whose costs they are
pub edges-costs : (edges : List Edge) (states : List EdgeState) (packing : List Cut) → length states ≡ length edges →
    edges_of (costs_of edges states packing) ≡ edges
edges-costs [] states packing size = refl
edges-costs (x ∷ edges) [] packing size = absurd (omega arith)
edges-costs (x ∷ edges) (state ∷ states) packing size =
    ap (λ es. x ∷ es) (edges-costs edges states packing (omega arith))

-- where nothing is decided no edge is inside
inside_none : (edges : List Edge) → inside_length edges (replicate (length edges) Undecided) ≡ 0
inside_none [] = refl
inside_none (x ∷ edges) = inside_none edges

-- .. and the length of the edge that is taken in is that of all inside edges
inside_taken_in : (edges : List Edge) (e : ℕ) (x : Edge) → slice_get edges e ≡ Some x →
    inside_length edges (slice_set (replicate (length edges) Undecided) e Inside) ≡ x.length
inside_taken_in [] e x at = absurd cc
inside_taken_in (y ∷ edges) zero x at = grind (arith, same_Some y x, inside_none edges)
inside_taken_in (y ∷ edges) (suc e) x at = inside_taken_in edges e x at

-- what is known of an edge where an ascent takes it in behind some cuts
pub record Bounds (g : Graph) (e bound : ℕ) : Type 0 where
  pub value : IsEdgeBound g e bound
  pub least : IsLowerBoundWith g e bound
  pub within : bound ≤ total_of g

-- .. of the sum of all weights and the edge's length
pub Bounds-behind : (g : Graph) (e : ℕ) (x : Edge) (now : Decided) (start first : List Cut) (a : Ascent) (weight more : ℕ) →
    IsInSomeNetwork g e → slice_get g.edges e ≡ Some x → now ≡ edge_taken_in g e →
    weight ≡ sum_by (λ c. c.weight) first → more ≡ sum_by (λ c. c.weight) a.packing →
    IsAscent g now start (behind first a) → Bounds g e (weight + more + x.length)
Bounds-behind g e x now start first a weight more some at is weighs adds ascent =
    let all : List Cut = first ++ a.packing in
    let bound : ℕ = weight + more + x.length in
    let sum : bound ≡ packing_value g (edge_taken_in g e) all =
    omega (arith, weighs, adds, inside_taken_in g.edges e x at, sum_by-append (λ (c : Cut). c.weight) first a.packing) in
    let under : IsLowerBoundUnder g (edge_taken_in g e) bound =
    subst (IsLowerBoundUnder g (edge_taken_in g e)) (sym sum)
    (subst (λ d. IsLowerBoundUnder g d (packing_value g d all)) is ascent.bound) in
    record {
      value = (
        all,
        subst (λ d. IsFeasible g d all) is ascent.feasible,
        IsMaximal-not_closed g e now a.closed all some is ascent.maximal ascent.closing,
        sum,
      );
      least = IsLowerBoundWith-under g e bound under;
      within = bound-le-total g e bound some under;
    }

-- what an ascent leaves where it begins behind some cuts alone
pub AreLeftBehind-alone : (g : Graph) (now : Decided) (first none : List Cut) (costs : List EdgeCosts) → none ≡ [] →
    AreLeftBehind g now first costs → AreLeftBehind g now (first ++ none) costs
AreLeftBehind-alone g now first none costs is left =
    subst (λ cuts. AreLeftBehind g now cuts costs) (sym (ap (λ cuts. first ++ cuts) is ∙ append-nil first)) left
