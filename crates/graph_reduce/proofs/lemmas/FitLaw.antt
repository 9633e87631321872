-- The reduction of a graph is a graph, and its edges stand for edges of the graph that no other stands for.
use Rattle.std.specs.Prelude.{ℕ, zero, suc, ◌≡◌, ◌+◌, ◌<◌, ◌≤◌, Bool, true, false, List, [], ◌∷◌, length, map, slice_get, slice_index_or, sum_by, Option, Some, None, All}
use Rattle.std.proofs.Common.{refl, sym, ap, ◌∙◌, subst, arith}
use Rattle.std.proofs.lemmas.List.{length-map, get_or-map}
use Rattle.std.proofs.lemmas.List.Elements.{Contains-get_or}
use Rattle.std.proofs.lemmas.List.Sums.{sum_by-cons}
use Rattle.std.proofs.lemmas.Option.{slice_get_within}
use Rattle.lists.specs.ListLaws.{All-from_places}
use Rattle.net_graph.specs.declared.edge.Edge.{Edge}
use Rattle.net_graph.specs.Flags.{has}
use Rattle.net_graph.specs.Graph.{Graph, IsGraph, HasEndsBelow}
use Rattle.net_graph.specs.Members.{members_from, members_of}
use Rattle.graph_reduce.specs.State.{Bundle, State, HasEdge, start_of}
use Rattle.graph_reduce.specs.Reduction.{Reduction, bundles_left, number_among, renumbered, reduction_of}
use Rattle.graph_reduce.specs.Fitness.{IsFitFor, ReductionsFit}
use Rattle.graph_reduce.proofs.lemmas.Ending.{member_at}
use Rattle.graph_reduce.proofs.lemmas.Fits.{Fits, Fits-start, all}
use Rattle.graph_reduce.proofs.lemmas.Lengths.{length_in}
use Rattle.graph_reduce.proofs.lemmas.Renumbering.{mapped_at}
use Rattle.graph_reduce.proofs.lemmas.Soundness.{IsSound, IsSound-start}
use Rattle.graph_reduce.proofs.lemmas.Steps.{steps_keep, steps_fit}
use Rattle.graph_reduce.proofs.lemmas.Terminals.{In-from_Contains}

-- no more members than flags
length-members_from : (n : ℕ) (flags : List Bool) → length (members_from n flags) ≤ length flags
length-members_from n [] = omega arith
length-members_from n (true ∷ flags) = omega (arith, length-members_from (n + 1) flags)
length-members_from n (false ∷ flags) = omega (arith, length-members_from (n + 1) flags)

-- no more edges than places
length-bundles_left : (xs : List (Option Bundle)) → length (bundles_left xs) ≤ length xs
length-bundles_left [] = omega arith
length-bundles_left (None ∷ xs) = omega (arith, length-bundles_left xs)
length-bundles_left (Some x ∷ xs) = omega (arith, length-bundles_left xs)

-- an edge that is left stands at a place
record StandsAt (xs : List (Option Bundle)) (x : Bundle) : Type 0 where
  place : ℕ
  at : slice_get xs place ≡ Some (Some x)

left_at : (xs : List (Option Bundle)) (k : ℕ) (x : Bundle) → slice_get (bundles_left xs) k ≡ Some x → StandsAt xs x
left_at [] k x at = absurd cc
left_at (None ∷ xs) k x at = let rest = left_at xs k x at in record { place = suc rest.place; at = rest.at }
left_at (Some y ∷ xs) zero x at = record { place = zero; at = ap Some at }
left_at (Some y ∷ xs) (suc k) x at = let rest = left_at xs k x at in record { place = suc rest.place; at = rest.at }

-- the edges of two places that hold one edge of the graph have one number
left_apart : (xs : List (Option Bundle)) (e : ℕ) → ((n m : ℕ) (x y : Bundle) → slice_get xs n ≡ Some (Some x) →
    slice_get xs m ≡ Some (Some y) → has x.originals e ≡ true → has y.originals e ≡ true → n ≡ m) →
    (j k : ℕ) (x y : Bundle) → slice_get (bundles_left xs) j ≡ Some x → slice_get (bundles_left xs) k ≡ Some y →
    has x.originals e ≡ true → has y.originals e ≡ true → j ≡ k
left_apart [] e apart j k x y x_at y_at x_has y_has = absurd cc
left_apart (None ∷ xs) e apart j k x y x_at y_at x_has y_has = left_apart xs e
    (λ n m a b a_at b_at a_has b_has. let same = apart (suc n) (suc m) a b a_at b_at a_has b_has in omega arith)
    j k x y x_at y_at x_has y_has
left_apart (Some z ∷ xs) e apart zero zero x y x_at y_at x_has y_has = refl
left_apart (Some z ∷ xs) e apart zero (suc k) x y x_at y_at x_has y_has =
    let later = left_at xs k y y_at in
    let same : zero ≡ suc later.place = apart zero (suc later.place) x y (ap Some x_at) later.at x_has y_has in
    absurd (omega arith)
left_apart (Some z ∷ xs) e apart (suc j) zero x y x_at y_at x_has y_has =
    let later = left_at xs j x x_at in
    let same : suc later.place ≡ zero = apart (suc later.place) zero x y later.at (ap Some y_at) x_has y_has in
    absurd (omega arith)
left_apart (Some z ∷ xs) e apart (suc j) (suc k) x y x_at y_at x_has y_has = ap suc (left_apart xs e
    (λ n m a b a_at b_at a_has b_has. let same = apart (suc n) (suc m) a b a_at b_at a_has b_has in omega arith)
    j k x y x_at y_at x_has y_has)

-- the edges that are left have the length of all places
total_left : (nodes : List Bool) (xs : List (Option Bundle)) →
    sum_by (λ e. e.length) (map (λ x. renumbered nodes x.edge) (bundles_left xs)) ≡ length_in xs all
total_left nodes [] = refl
total_left nodes (None ∷ xs) = omega (arith, total_left nodes xs)
total_left nodes (Some x ∷ xs) = search (sum_by-cons, total_left nodes xs)

module _ (g : Graph) (graph : IsGraph g) (s : State) (sound : IsSound s) (fits : Fits g s) where
  abbrev r : Reduction
  r = reduction_of s

  abbrev number : ℕ → ℕ
  number = number_among s.nodes

  -- the new number of a node that is left is below their count
  number_below : (v : ℕ) → slice_get s.nodes v ≡ Some true → number v < length (members_of s.nodes)
  number_below v is = slice_get_within (members_of s.nodes) (number v) (0 + v) (member_at 0 s.nodes v is)

  -- what holds of each edge that is left, with its new ends
  each_edge : (P : Edge → Type 0) → ((n : ℕ) (x : Bundle) → HasEdge s n x → P (renumbered s.nodes x.edge)) →
      All P r.graph.edges
  each_edge P holds = All-from_places P r.graph.edges (λ k e at.
      let (x, x_at, is) = mapped_at (λ (y : Bundle). renumbered s.nodes y.edge) (bundles_left s.edges) k e at in
      let stands = left_at s.edges k x x_at in
      subst P is (holds stands.place x stands.at))

  is_graph : IsGraph r.graph
  is_graph = record {
    few_vertices = omega (arith, length-members_from 0 s.nodes, fits.nodes, graph.few_vertices);
    few_edges = omega (
      arith,
      length-map (bundles_left s.edges) (λ (x : Bundle). renumbered s.nodes x.edge),
      length-bundles_left s.edges,
      fits.edges,
      graph.few_edges,
    );
    ends = each_edge (HasEndsBelow (length (members_of s.nodes))) (λ n x at. let both = sound.ends n x at in
        record { a = number_below x.edge.a both.0; b = number_below x.edge.b both.1 });
    lengths = each_edge (λ e. 0 < e.length) (λ n x at. fits.positive n x at);
    terminal = omega (arith, length-map s.terminals number, fits.some);
    terminals = λ k d below. let within : k < length s.terminals = omega (arith, length-map s.terminals number) in
        subst (λ t. t < length (members_of s.nodes)) (sym (get_or-map number s.terminals k 0 d within))
        (number_below (slice_index_or s.terminals k 0) (sound.terminals (slice_index_or s.terminals k 0)
        (In-from_Contains s.terminals (slice_index_or s.terminals k 0) (Contains-get_or s.terminals k 0 within))));
    total = omega (arith, total_left s.nodes s.edges, fits.total, graph.total);
  }

  -- a set of the reduction is what an edge that is left stands for
  set_at : (k : ℕ) (set : List Bool) → slice_get r.originals k ≡ Some set →
      (x : Bundle) × (slice_get (bundles_left s.edges) k ≡ Some x) × (x.originals ≡ set)
  set_at k set at = mapped_at (λ (y : Bundle). y.originals) (bundles_left s.edges) k set at

  is_fit : IsFitFor g r
  is_fit = record {
    graph = is_graph;
    origins = refl;
    edges = length-map (bundles_left s.edges) (λ (x : Bundle). x.originals)
        ∙ sym (length-map (bundles_left s.edges) (λ (x : Bundle). renumbered s.nodes x.edge));
    sizes = λ k set at. let (x, x_at, is) = set_at k set at in let stands = left_at s.edges k x x_at in
        ap length (sym is) ∙ fits.sizes stands.place x stands.at;
    forced = fits.forced;
    apart = λ j k e one two one_at two_at one_has two_has.
        let (x, x_at, x_is) = set_at j one one_at in let (y, y_at, y_is) = set_at k two two_at in
        left_apart s.edges e (λ n m a b a_at b_at a_has b_has. fits.apart n m e a b a_at b_at a_has b_has) j k x y
        x_at y_at (ap (λ set. has set e) x_is ∙ one_has) (ap (λ set. has set e) y_is ∙ two_has);
    unforced = λ k e set at is forced. let (x, x_at, x_is) = set_at k set at in
        let stands = left_at s.edges k x x_at in
        fits.unforced stands.place e x stands.at (ap (λ y. has y e) x_is ∙ is) forced;
    offset = omega (arith, fits.total);
  }

pub reductions_fit_lem : ReductionsFit
reductions_fit_lem g r graph is =
    let sound = (steps_keep is.reduced.count (start_of g) is.state (IsSound-start g graph) is.reduced.steps).1 in
    let fits = steps_fit g is.reduced.count (start_of g) is.state (Fits-start g graph) is.reduced.steps in
    subst (IsFitFor g) (sym is.is) (is_fit g graph is.state sound fits)
