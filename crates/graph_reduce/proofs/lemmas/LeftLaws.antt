-- What is left with its new numbers is the reduction.
use Rattle.std.specs.Prelude.{ℕ, zero, suc, ◌≡◌, ◌+◌, ◌<◌, ◌≤◌, Bool, true, false, List, [], ◌∷◌, map, length, slice_index, Option, Some, None, All}
use Rattle.std.proofs.Common.{refl, sym, ap, ◌∙◌, arith}
use Rattle.std.proofs.lemmas.List.{get_or-map}
use Rattle.std.proofs.lemmas.List.FromFn.{length-range_with_len, get_or-range_with_len, length-map-range_with_len}
use Rattle.net_graph.specs.declared.edge.Edge.{Edge}
use Rattle.net_graph.specs.Graph.{Graph, IsGraph, graph_of}
use Rattle.net_graph.specs.Members.{members_from, members_of}
use Rattle.graph_reduce.specs.State.{Bundle, State}
use Rattle.graph_reduce.specs.Step.{IsReducedTo}
use Rattle.graph_reduce.specs.Reduction.{IsReductionOf, bundles_left, number_among, renumbered, reduction_of}
use Rattle.graph_reduce.specs.Fitness.{IsFitFor}
use Rattle.graph_reduce.specs.Survey.{IsNumbered}
use Rattle.graph_reduce.specs.Left.{edges_left, between_numbers, numbers_of, HaveEndsBelow, IsLaidOut}
use Rattle.graph_reduce.proofs.lemmas.Bounds.{reached_from, reached_numbered, nodes_from}
use Rattle.graph_reduce.proofs.lemmas.FitLaw.{reductions_fit_lem}

-- the new number of a node
number_at : (nodes : List Bool) (v : ℕ) → v < length nodes → slice_index (numbers_of nodes) v ≡ number_among nodes v
number_at nodes v below =
    grind (arith, get_or-map, length-range_with_len 0 (length nodes), get_or-range_with_len 0 (length nodes) v 0 below)

-- the edges between new numbers
edges_renumbered : (nodes : List Bool) (edges : List (Option Bundle)) → HaveEndsBelow (length nodes) edges →
    edges_left (numbers_of nodes) edges ≡ map (λ x. renumbered nodes x.edge) (bundles_left edges)
edges_renumbered nodes [] below = refl
edges_renumbered nodes (None ∷ edges) below = edges_renumbered nodes edges (λ place x at. below (suc place) x at)
edges_renumbered nodes (Some x ∷ edges) below =
    let ends = below 0 x refl in
    let a = number_at nodes x.edge.a ends.0 in let b = number_at nodes x.edge.b ends.1 in
    let first : between_numbers (numbers_of nodes) x.edge ≡ renumbered nodes x.edge = cc in
    let rest = edges_renumbered nodes edges (λ place y at. below (suc place) y at) in cc

-- as many numbers as nodes
pub length-numbers : (nodes : List Bool) → length (numbers_of nodes) ≡ length nodes
length-numbers nodes = length-map-range_with_len (number_among nodes) 0 (length nodes)

-- no more nodes are left than there were
pub few_left : (nodes : List Bool) → length (members_of nodes) ≤ length nodes
few_left nodes = few_from 0 nodes
  where
    few_from : (n : ℕ) (flags : List Bool) → length (members_from n flags) ≤ length flags
    few_from n [] = omega arith
    few_from n (true ∷ flags) = omega (arith, few_from (n + 1) flags)
    few_from n (false ∷ flags) = omega (arith, few_from (n + 1) flags)

-- the numbers of a set are below its size
members_below : (n : ℕ) (flags : List Bool) (end : ℕ) → n + length flags ≤ end →
    All (λ v. v < end) (members_from n flags)
members_below n [] end fits k d below = absurd (omega arith)
members_below n (false ∷ flags) end fits k d below = members_below (n + 1) flags end (omega arith) k d below
members_below n (true ∷ flags) end fits zero d below = omega arith
members_below n (true ∷ flags) end fits (suc k) d below = members_below (n + 1) flags end (omega arith) k d
    (omega arith)

-- .. and the terminals
terminals_renumbered : (nodes : List Bool) (terminals : List ℕ) → ((k : ℕ) → k < length terminals →
    slice_index terminals k < length nodes) →
    map (λ t. slice_index (numbers_of nodes) t) terminals ≡ map (number_among nodes) terminals
terminals_renumbered nodes [] below = refl
terminals_renumbered nodes (t ∷ terminals) below =
    let first = number_at nodes t (below 0 (omega arith)) in
    let rest = terminals_renumbered nodes terminals (λ k inside. below (suc k) (omega arith)) in cc

module _ (g : Graph) (graph : IsGraph g) (s : State) (reduced : IsReducedTo g s) where
  numbered : IsNumbered s
  numbered = reached_numbered s (reached_from g graph s (record { count = reduced.count; steps = reduced.steps }))

  pub ends_below : HaveEndsBelow (length s.nodes) s.edges
  ends_below = numbered.ends

  pub terminals_below : All (λ t. t < length s.nodes) s.terminals
  terminals_below = numbered.terminals

  pub few_nodes : length s.nodes ≤ 2500
  few_nodes = grind (arith, nodes_from g graph s (record { count = reduced.count; steps = reduced.steps }))

  pub is_reduction : IsReductionOf g (reduction_of s)
  is_reduction = record { state = s; reduced = reduced; is = refl }

  fit : IsFitFor g (reduction_of s)
  fit = reductions_fit_lem g (reduction_of s) graph is_reduction

  pub left_is_graph : IsGraph (reduction_of s).graph
  left_is_graph = fit.graph

  -- the graph of what is left
  pub left_graph_is : (count : ℕ) (left : List Edge) (list : List ℕ) (one two : List ℕ) → one ≡ numbers_of s.nodes →
      two ≡ numbers_of s.nodes → count ≡ length (members_of s.nodes) → left ≡ edges_left one s.edges →
      list ≡ map (λ t. slice_index two t) s.terminals → graph_of count left list ≡ (reduction_of s).graph
  left_graph_is count left list one two one_is two_is count_is left_is list_is =
      let e = left_is ∙ ap (λ numbers. edges_left numbers s.edges) one_is
      ∙ edges_renumbered s.nodes s.edges ends_below in
      let t = list_is ∙ ap (λ numbers. map (λ v. slice_index numbers v) s.terminals) two_is
      ∙ terminals_renumbered s.nodes s.terminals (λ k inside. terminals_below k 0 inside) in cc

  -- what is left with its new numbers
  pub left_is : (left : Graph) (origins : List ℕ) (nodes : List Bool) (originals : List (List Bool))
      (edges : List (Option Bundle)) (forced : List Bool) (offset : ℕ) → left ≡ (reduction_of s).graph →
      origins ≡ members_of nodes → nodes ≡ s.nodes → originals ≡ map (λ x. x.originals) (bundles_left edges) →
      edges ≡ s.edges → forced ≡ s.forced → offset ≡ s.offset →
      record { graph = left; origins = origins; originals = originals; forced = forced; offset = offset } ≡
      reduction_of s
  left_is left origins nodes originals edges forced offset graph_is origins_is nodes_are originals_are edges_are
      forced_is offset_is = grind arith

  pub laid_out : IsLaidOut (reduction_of s)
  laid_out = record {
    nodes = members_below 0 s.nodes 2500 (omega (arith, few_nodes));
    vertices = refl;
    edges = fit.edges;
    sizes = λ n set at. fit.sizes n set at ∙ sym fit.forced;
    few = omega (arith, fit.forced, graph.few_edges);
  }
