-- Each step leaves fewer nodes and edges.
use Rattle.std.specs.Prelude.{ℕ, zero, suc, ◌≡◌, ◌+◌, ◌<◌, ◌≤◌, Bool, true, false, List, [], ◌∷◌, length, replicate, slice_get, slice_set, Option, Some, None}
use Rattle.std.proofs.Common.{refl, sym, ap, inl, inr, subst, arith}
use Rattle.std.proofs.lemmas.Option.{same_Some}
use Rattle.net_graph.specs.declared.edge.Edge.{Edge}
use Rattle.graph_reduce.specs.State.{Bundle, State, HasEdge, bundles_from, start_of}
use Rattle.graph_reduce.specs.Rules.{without_edge, joined}
use Rattle.graph_reduce.specs.Step.{Rule, Takes, AreSteps}
use Rattle.graph_reduce.specs.Step.Rule.{OneTerminal, Loop, Parallel, Leaf, Passed, TerminalLeaf}
use Rattle.graph_reduce.specs.Ending.{ReductionsEnd}
use Rattle.graph_reduce.proofs.lemmas.JoinedPlaces.{mid, later_at}

-- how many places hold an edge
abbrev edge_count : List (Option Bundle) → ℕ
edge_count [] = 0
edge_count (None ∷ xs) = edge_count xs
edge_count (Some x ∷ xs) = suc (edge_count xs)

-- how many nodes are left
abbrev node_count : List Bool → ℕ
node_count [] = 0
node_count (true ∷ flags) = suc (node_count flags)
node_count (false ∷ flags) = node_count flags

-- both
abbrev pub size_of : State → ℕ
size_of s = node_count s.nodes + edge_count s.edges

fewer_edges : (xs : List (Option Bundle)) (n : ℕ) (x : Bundle) → slice_get xs n ≡ Some (Some x) →
    suc (edge_count (slice_set xs n None)) ≡ edge_count xs
fewer_edges [] n x at = absurd cc
fewer_edges (None ∷ xs) zero x at = absurd (let no_edge = same_Some None (Some x) at in cc)
fewer_edges (None ∷ xs) (suc n) x at = fewer_edges xs n x at
fewer_edges (Some y ∷ xs) zero x at = refl
fewer_edges (Some y ∷ xs) (suc n) x at = ap suc (fewer_edges xs n x at)

as_many_edges : (xs : List (Option Bundle)) (n : ℕ) (x y : Bundle) → slice_get xs n ≡ Some (Some x) →
    edge_count (slice_set xs n (Some y)) ≡ edge_count xs
as_many_edges [] n x y at = absurd cc
as_many_edges (None ∷ xs) zero x y at = absurd (let no_edge = same_Some None (Some x) at in cc)
as_many_edges (None ∷ xs) (suc n) x y at = as_many_edges xs n x y at
as_many_edges (Some z ∷ xs) zero x y at = refl
as_many_edges (Some z ∷ xs) (suc n) x y at = ap suc (as_many_edges xs n x y at)

no_edges : (size : ℕ) → edge_count (replicate size None) ≡ 0
no_edges zero = refl
no_edges (suc size) = no_edges size

fewer_nodes : (flags : List Bool) (v : ℕ) → slice_get flags v ≡ Some true →
    suc (node_count (slice_set flags v false)) ≡ node_count flags
fewer_nodes [] v at = absurd cc
fewer_nodes (true ∷ flags) zero at = refl
fewer_nodes (false ∷ flags) zero at = absurd cc
fewer_nodes (true ∷ flags) (suc v) at = ap suc (fewer_nodes flags v at)
fewer_nodes (false ∷ flags) (suc v) at = fewer_nodes flags v at

no_more_nodes : (flags : List Bool) (v : ℕ) → node_count (slice_set flags v false) ≤ node_count flags
no_more_nodes [] v = omega arith
no_more_nodes (true ∷ flags) zero = omega arith
no_more_nodes (false ∷ flags) zero = omega arith
no_more_nodes (true ∷ flags) (suc v) = omega (arith, no_more_nodes flags v)
no_more_nodes (false ∷ flags) (suc v) = no_more_nodes flags v

-- without an edge there is less
less_without : (s : State) (n : ℕ) (x : Bundle) → HasEdge s n x → size_of (without_edge s n) < size_of s
less_without s n x at = omega (arith, fewer_edges s.edges n x at)

takes_less : (rule : Rule) (at : ℕ) (old new : State) → Takes rule at old new → size_of new < size_of old
takes_less OneTerminal at old new drops = subst (λ s. size_of s < size_of old) (sym drops.becomes)
    (let (n, x, x_at) = drops.some in omega (arith, fewer_edges old.edges n x x_at, no_edges (length old.edges)))
takes_less Loop at old new drops = grind (arith, less_without)
takes_less Parallel at old new drops = grind (arith, less_without)
takes_less Leaf at old new (inl drops) = grind (arith, fewer_nodes)
takes_less Leaf at old new (inr drops) = grind (arith, fewer_nodes, fewer_edges)
takes_less Passed at old new joins = subst (λ s. size_of s < size_of old) (sym joins.becomes)
    (omega (
      arith,
      fewer_nodes old.nodes at joins.node,
      fewer_edges (mid at old new joins) joins.later joins.y (later_at at old new joins),
      as_many_edges old.edges joins.earlier joins.x (joined joins.x joins.y joins.u joins.w) joins.earlier_at,
    ))
takes_less TerminalLeaf at old new forces = grind (arith, no_more_nodes, fewer_edges)

-- .. and so each step counts
pub steps_less : (n : ℕ) (old new : State) → AreSteps n old new → n + size_of new ≤ size_of old
steps_less zero old new is = omega (arith, ap size_of is)
steps_less (suc n) old new (mid, steps, step) = omega (arith, takes_less, steps_less n old mid steps)

-- ---- the first state

all_nodes : (size : ℕ) → node_count (replicate size true) ≡ size
all_nodes zero = refl
all_nodes (suc size) = ap suc (all_nodes size)

all_edges : (size n : ℕ) (es : List Edge) → edge_count (bundles_from size n es) ≡ length es
all_edges size n [] = refl
all_edges size n (e ∷ es) = ap suc (all_edges size (n + 1) es)

pub reductions_end_lem : ReductionsEnd
reductions_end_lem g n s steps =
    grind (arith, steps_less n (start_of g) s steps, all_nodes g.vertices, all_edges (length g.edges) 0 g.edges)
