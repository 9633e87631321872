-- A tree has fewer splits than there are ways to decide what it may split on, where some leaf can still be split.
use Rattle.std.proofs.Common.{ℕ, zero, suc, ◌≡◌, ◌+◌, ◌^◌, ◌<◌, ◌≤◌, ⊎_elim, inr, Bool, true, false, List, [], ◌∷◌, length, replicate, slice_get, slice_set, get_or, Some, refl, ap, sym, ◌∙◌, subst, arith}
use Rattle.std.proofs.lemmas.Nat.{pow_pos, pow_below}
use Rattle.std.proofs.lemmas.Option.{slice_get-get_or}
use Rattle.std.proofs.Math.Nat.{pow-suc, pow-le-pow_right}
use Rattle.lists.specs.ListLaws.{All-at}
use Rattle.net_graph.specs.declared.edge.Edge.{Edge}
use Rattle.net_graph.specs.declared.state.EdgeState.{EdgeState}
use Rattle.net_graph.specs.declared.state.EdgeState.TheVariants.{Undecided, Inside, Outside}
use Rattle.net_graph.specs.declared.state.VertexState.{VertexState}
use Rattle.net_graph.specs.declared.state.VertexState.TheVariants as vertex
use Rattle.net_graph.specs.EntryLaws.{slice_get-set_other}
use Rattle.net_graph.specs.Graph.{Graph}
use Rattle.net_graph.specs.Network.{length_of}
use Rattle.net_graph.specs.Decision.{Decided, IsDecisionFor, IsUndecided, IsVertexUndecided, states_of, state_at_ends, states_at_ends, is_missed, nothing_decided, with_edge, with_vertex}
use Rattle.net_graph.specs.DecisionLaws.{states_of-nothing, IsDecisionFor-nothing}
use Rattle.cert_tree.specs.declared.split.SplitOn.{SplitOn}
use Rattle.cert_tree.specs.declared.split.SplitOn.TheVariants as split
use Rattle.cert_tree.specs.Decisions.{outside_of, inside_of}
use Rattle.cert_tree.specs.LeafLaws.{IsDecisionFor-outside_of, IsDecisionFor-inside_of}
use Rattle.cert_tree.specs.Tree.{Tree}
use Rattle.cert_tree.specs.Tree.Tree.{Leaf, Split}
use Rattle.cert_tree.specs.Preorder.{split_count}
use Rattle.cert_tree.specs.TreeValue.{IsValidTree}
use Rattle.branch.specs.declared.solved.Solved.{Solved}
use Rattle.branch.specs.declared.split_kind.SplitKind.{SplitKind}
use Rattle.branch.specs.declared.split_kind.SplitKind.TheVariants as kind
use Rattle.branch.specs.Leaves.{DecidedLeaf, leaf_under, leaves_of}
use Rattle.branch.specs.States.{IsReadyLeaf, IsOpenLeaf, IsState, leaf_value}
use Rattle.branch.specs.Runs.{EndsOpenings}
use Rattle.branch.specs.Kinds.{SplitsEdges}
use Rattle.branch.specs.Solving.{IsSolved, ways_of}
use Rattle.branch.proofs.lemmas.ListLemmas.{place_cases}
use Rattle.branch.proofs.lemmas.TreeLemmas.{least_leaf}
use Rattle.branch.proofs.lemmas.InsideLemmas.{inside-covers}
use Rattle.branch.proofs.lemmas.OpeningLemmas.{saturated_inside}
use Rattle.branch.proofs.lemmas.SolvingLemmas.{below_length}

-- one for an undecided edge
abbrev pub one_undecided : EdgeState → ℕ
one_undecided Undecided = 1
one_undecided Inside = 0
one_undecided Outside = 0

-- the number of undecided edges
abbrev pub undecided_count : List EdgeState → ℕ
undecided_count [] = 0
undecided_count (state ∷ states) = one_undecided state + undecided_count states

-- .. under a decision
abbrev pub edges_left : Graph → Decided → ℕ
edges_left g d = undecided_count (states_of g d)

-- one for a vertex of which nothing is decided
abbrev pub one_open : VertexState → ℕ
one_open vertex.Undecided = 1
one_open vertex.Met = 0
one_open vertex.Missed = 0

-- the number of vertices of which nothing is decided
abbrev pub open_count : List VertexState → ℕ
open_count [] = 0
open_count (state ∷ states) = one_open state + open_count states

-- of edges and vertices
abbrev pub all_left : Graph → Decided → ℕ
all_left g d = edges_left g d + open_count d.vertices

undecided_count-none : (m : ℕ) → undecided_count (replicate m Undecided) ≡ m
undecided_count-none zero = refl
undecided_count-none (suc m) = omega (arith, undecided_count-none m)

open_count-none : (m : ℕ) → open_count (replicate m vertex.Undecided) ≡ m
open_count-none zero = refl
open_count-none (suc m) = omega (arith, open_count-none m)

undecided_count-set : (states : List EdgeState) (n : ℕ) (state : EdgeState) → slice_get states n ≡ Some Undecided → one_undecided state ≡ 0 →
    undecided_count states ≡ 1 + undecided_count (slice_set states n state)
undecided_count-set [] n state at decided = absurd cc
undecided_count-set (Undecided ∷ states) zero state at decided = omega arith
undecided_count-set (Inside ∷ states) zero state at decided = absurd cc
undecided_count-set (Outside ∷ states) zero state at decided = absurd cc
undecided_count-set (first ∷ states) (suc n) state at decided = omega (arith, undecided_count-set states n state at decided)

open_count-set : (states : List VertexState) (v : ℕ) (state : VertexState) → slice_get states v ≡ Some vertex.Undecided → one_open state ≡ 0 →
    open_count states ≡ 1 + open_count (slice_set states v state)
open_count-set [] v state at decided = absurd cc
open_count-set (vertex.Undecided ∷ states) zero state at decided = omega arith
open_count-set (vertex.Met ∷ states) zero state at decided = absurd cc
open_count-set (vertex.Missed ∷ states) zero state at decided = absurd cc
open_count-set (first ∷ states) (suc v) state at decided = omega (arith, open_count-set states v state at decided)

none_undecided : (states : List EdgeState) (n : ℕ) → undecided_count states ≡ 0 → slice_get states n ≡ Some Undecided → ⊥
none_undecided [] n none at = cc
none_undecided (Undecided ∷ states) zero none at = absurd (omega arith)
none_undecided (Inside ∷ states) zero none at = cc
none_undecided (Outside ∷ states) zero none at = cc
none_undecided (first ∷ states) (suc n) none at = none_undecided states n (omega arith) at

states-set_inside : (es : List Edge) (ss : List EdgeState) (vs : List VertexState) (n : ℕ) →
    states_at_ends es (slice_set ss n Inside) vs ≡ slice_set (states_at_ends es ss vs) n Inside
states-set_inside [] ss vs n = refl
states-set_inside (e ∷ es) [] vs n = refl
states-set_inside (e ∷ es) (s ∷ ss) vs zero = refl
states-set_inside (e ∷ es) (s ∷ ss) vs (suc n) = ap (λ xs. state_at_ends vs e s ∷ xs) (states-set_inside es ss vs n)

states-set_outside : (es : List Edge) (ss : List EdgeState) (vs : List VertexState) (n : ℕ) →
    states_at_ends es (slice_set ss n Outside) vs ≡ slice_set (states_at_ends es ss vs) n Outside
states-set_outside [] ss vs n = refl
states-set_outside (e ∷ es) [] vs n = refl
states-set_outside (e ∷ es) (s ∷ ss) vs zero = refl
states-set_outside (e ∷ es) (s ∷ ss) vs (suc n) = ap (λ xs. state_at_ends vs e s ∷ xs) (states-set_outside es ss vs n)

-- a decided edge is one undecided edge less
left-inside : (g : Graph) (d : Decided) (e : ℕ) → IsUndecided g d e → edges_left g d ≡ 1 + edges_left g (with_edge d e Inside)
left-inside g d e undecided = search (undecided_count-set, states-set_inside)

left-outside : (g : Graph) (d : Decided) (e : ℕ) → IsUndecided g d e → edges_left g d ≡ 1 + edges_left g (with_edge d e Outside)
left-outside g d e undecided = search (undecided_count-set, states-set_outside)

-- each missed vertex of the first states is one of the second
abbrev MissesNoFewer : List VertexState → List VertexState → Type 0
MissesNoFewer fewer more = (k : ℕ) → is_missed (slice_get fewer k) ≡ true → is_missed (slice_get more k) ≡ true

-- an edge at an end that is missed stays free
one_at_ends : (fewer more : List VertexState) (e : Edge) (state : EdgeState) → MissesNoFewer fewer more →
    one_undecided (state_at_ends more e state) ≤ one_undecided (state_at_ends fewer e state)
one_at_ends fewer more e Inside misses = omega arith
one_at_ends fewer more e Outside misses = omega arith
one_at_ends fewer more e Undecided misses = grind arith

left-missing : (es : List Edge) (ss : List EdgeState) (fewer more : List VertexState) → MissesNoFewer fewer more →
    undecided_count (states_at_ends es ss more) ≤ undecided_count (states_at_ends es ss fewer)
left-missing [] ss fewer more misses = omega arith
left-missing (e ∷ es) [] fewer more misses = omega arith
left-missing (e ∷ es) (s ∷ ss) fewer more misses = omega (arith, one_at_ends fewer more e s misses, left-missing es ss fewer more misses)

-- .. as where one more vertex is decided
misses-set : (states : List VertexState) (v : ℕ) (state : VertexState) → (slice_get states v ≡ Some vertex.Missed → ⊥) →
    MissesNoFewer states (slice_set states v state)
misses-set states v state not_missed = grind (arith, slice_get-set_other)

-- nothing is decided of an undecided vertex
open_state : (g : Graph) (d : Decided) (v : ℕ) → IsDecisionFor g d → IsVertexUndecided g d v → slice_get d.vertices v ≡ Some vertex.Undecided
open_state g d v decision undecided =
    let size : length d.vertices ≡ g.vertices = decision.vertices in
    let below : v < g.vertices = undecided.vertex in
    go (get_or d.vertices v vertex.Undecided) (slice_get-get_or d.vertices v vertex.Undecided (omega arith))
  where
    go : (state : VertexState) → slice_get d.vertices v ≡ Some state → slice_get d.vertices v ≡ Some vertex.Undecided
    go vertex.Undecided at = at
    go vertex.Met at = absurd (undecided.not_required (inr (inr at)))
    go vertex.Missed at = absurd (undecided.not_missed at)

-- a decided vertex is one less to decide
left-vertex : (g : Graph) (d : Decided) (v : ℕ) (state : VertexState) → IsDecisionFor g d → IsVertexUndecided g d v → one_open state ≡ 0 →
    all_left g (with_vertex d v state) < all_left g d
left-vertex g d v state decision undecided decided = grind (arith, left-missing, misses-set, open_count-set, open_state)

-- at each split of the tree less is left in both children
abbrev pub Lessens : (Decided → ℕ) → Decided → Tree SplitOn → Type 0
Lessens left d (Leaf cuts) = Unit {0}
Lessens left d (Split on outside inside) =
    (left (outside_of d on) < left d) × (left (inside_of d on) < left d)
    × Lessens left (outside_of d on) outside × Lessens left (inside_of d on) inside

-- each split on an edge decides an undecided one
edges_lessen : (g : Graph) (d : Decided) (t : Tree SplitOn) → IsValidTree g d t → SplitsEdges t → Lessens (edges_left g) d t
edges_lessen g d (Leaf cuts) valid edges = tt
edges_lessen g d (Split (split.Vertex v) o i) valid edges = absurd edges
edges_lessen g d (Split (split.Edge e) o i) valid edges = (
  omega (arith, left-outside g d e valid.0),
  omega (arith, left-inside g d e valid.0),
  edges_lessen g (with_edge d e Outside) o valid.1 edges.0,
  edges_lessen g (with_edge d e Inside) i valid.2 edges.1,
)

-- .. and each split an undecided edge or vertex
all_lessen : (g : Graph) (d : Decided) (t : Tree SplitOn) → IsDecisionFor g d → IsValidTree g d t → Lessens (all_left g) d t
all_lessen g d (Leaf cuts) decision valid = tt
all_lessen g d (Split (split.Vertex v) o i) decision valid =
    grind (
      arith,
      left-vertex g d v vertex.Missed decision valid.0 refl,
      left-vertex g d v vertex.Met decision valid.0 refl,
      all_lessen g (with_vertex d v vertex.Missed) o (IsDecisionFor-outside_of g d (split.Vertex v) decision valid.0) valid.1,
      all_lessen g (with_vertex d v vertex.Met) i (IsDecisionFor-inside_of g d (split.Vertex v) decision valid.0) valid.2,
    )
all_lessen g d (Split (split.Edge e) o i) decision valid =
    grind (
      arith,
      left-outside g d e valid.0,
      left-inside g d e valid.0,
      all_lessen g (with_edge d e Outside) o (IsDecisionFor-outside_of g d (split.Edge e) decision valid.0) valid.1,
      all_lessen g (with_edge d e Inside) i (IsDecisionFor-inside_of g d (split.Edge e) decision valid.0) valid.2,
    )

-- with one more to decide there are at least twice as many ways
doubled : (more few : ℕ) → few < more → 2 ^ few + 2 ^ few ≤ 2 ^ more
doubled more few less =
    let grows : 2 ^ suc few ≤ 2 ^ more = pow-le-pow_right (omega arith) (omega arith) in omega (arith, pow-suc 2 few)

module _ (left : Decided → ℕ) where
  -- so there are no more leaves than ways
  splits-le : (d : Decided) (t : Tree SplitOn) → Lessens left d t → 1 + split_count t ≤ 2 ^ left d
  splits-le d (Leaf cuts) lessens = omega (arith, pow_pos (left d))
  splits-le d (Split on o i) lessens =
      grind (arith, doubled (left d) (left (outside_of d on)) lessens.0, doubled (left d) (left (inside_of d on)) lessens.1, splits-le (outside_of d on) o lessens.2, splits-le (inside_of d on) i lessens.3)

  -- .. and fewer where at a leaf something is left
  splits-lt : (d : Decided) (t : Tree SplitOn) (k : ℕ) (leaf : DecidedLeaf) → slice_get (leaves_of d t) k ≡ Some leaf →
      0 < left leaf.decision → Lessens left d t → 1 + split_count t < 2 ^ left d
  splits-lt d (Leaf cuts) zero leaf at some lessens =
      let same : leaf_under d cuts ≡ leaf = cc in
      let here : 0 < left d = subst (λ (l : DecidedLeaf). 0 < left l.decision) (sym same) some in
      omega (arith, pow_below 0 (left d) here)
  splits-lt d (Leaf cuts) (suc k) leaf at some lessens = absurd cc
  splits-lt d (Split on o i) k leaf at some lessens =
      let os = leaves_of (outside_of d on) o in
      let is = leaves_of (inside_of d on) i in
      let outside = doubled (left d) (left (outside_of d on)) lessens.0 in
      let inside = doubled (left d) (left (inside_of d on)) lessens.1 in
      ⊎_elim
      (λ (l : (k < length os) × (slice_get os k ≡ Some leaf)).
      omega (
        arith,
        outside,
        inside,
        splits-lt (outside_of d on) o k leaf l.1 some lessens.2,
        splits-le (inside_of d on) i lessens.3,
      ))
      (λ (r : (m : ℕ) × (k ≡ length os + m) × (slice_get is m ≡ Some leaf)).
      omega (
        arith,
        outside,
        inside,
        splits-le (outside_of d on) o lessens.2,
        splits-lt (inside_of d on) i r.0 leaf r.2 some lessens.3,
      ))
      (place_cases os is k leaf at)

-- an open leaf has an undecided edge: were all edges with a saturated arc inside, they would be no longer than its value
open_has_undecided : (g : Graph) (limit : ℕ) (leaf : DecidedLeaf) → IsReadyLeaf g limit leaf → IsOpenLeaf g limit leaf →
    0 < edges_left g leaf.decision
open_has_undecided g limit leaf ready below = cases (edges_left g leaf.decision) refl
  where
    cases : (m : ℕ) → edges_left g leaf.decision ≡ m → 0 < m
    cases zero none =
        let covered = inside-covers g.edges leaf.decision.edges ready.saturated
        (λ n at. saturated_inside g leaf.decision leaf.packing n (ready.arcs.arcs n at)
        (λ undecided. none_undecided (states_of g leaf.decision) n none undecided)) in
        let long : limit ≤ length_of g ready.saturated = ready.long in
        let low : leaf_value g leaf < limit = below in
        absurd (omega arith)
    cases (suc m) some = omega arith

-- the state that a run ends with
run_state : (g : Graph) (first_length n : ℕ) (network : List Bool) (tree : Tree SplitOn) → EndsOpenings g first_length n network tree → IsState g network tree
run_state g first_length zero network tree run = run.0
run_state g first_length (suc n) network tree run = run.0

-- a leaf of the tree with an undecided edge
abbrev HasLeafLeft : Graph → Tree SplitOn → Type 0
HasLeafLeft g tree = (k : ℕ) × (leaf : DecidedLeaf) × (slice_get (leaves_of (nothing_decided g) tree) k ≡ Some leaf) × (0 < edges_left g leaf.decision)

leaf_left : (g : Graph) (first_length : ℕ) (solved : Solved) → IsSolved g first_length solved → solved.optimal ≡ false → HasLeafLeft g solved.tree
leaf_left g first_length solved holds stopped =
    let d = nothing_decided g in
    let below = below_length g first_length solved holds stopped in
    let (k, leaf, at, least) = least_leaf g d solved.tree in
    let total = holds.length_is in
    let low : leaf_value g leaf < length_of g solved.network = omega arith in
    let state = run_state g first_length (split_count solved.tree) solved.network solved.tree holds.run in
    let ready = All-at (λ (l : DecidedLeaf). IsOpenLeaf g (length_of g solved.network) l → IsReadyLeaf g (length_of g solved.network) l)
    (leaves_of d solved.tree) k leaf state.leaves at low in
    (k, leaf, at, open_has_undecided g (length_of g solved.network) leaf ready low)

-- an answer that isn't optimal has fewer splits than ways
splits_left : (asked : SplitKind) (g : Graph) (first_length : ℕ) (solved : Solved) → IsSolved g first_length solved →
    (asked ≡ kind.Edges → SplitsEdges solved.tree) → solved.optimal ≡ false → 1 + split_count solved.tree < ways_of asked g
splits_left kind.Edges g first_length solved holds edges stopped =
    let d = nothing_decided g in
    let (k, leaf, at, some) = leaf_left g first_length solved holds stopped in
    let all : edges_left g d ≡ length g.edges = ap undecided_count (states_of-nothing g) ∙ undecided_count-none (length g.edges) in
    subst (λ (m : ℕ). 1 + split_count solved.tree < 2 ^ m) all
    (splits-lt (edges_left g) d solved.tree k leaf at some (edges_lessen g d solved.tree holds.valid (edges refl)))
splits_left kind.Vertices g first_length solved holds edges stopped =
    let d = nothing_decided g in
    let (k, leaf, at, some) = leaf_left g first_length solved holds stopped in
    let edges_all : edges_left g d ≡ length g.edges = ap undecided_count (states_of-nothing g) ∙ undecided_count-none (length g.edges) in
    let all : all_left g d ≡ length g.edges + g.vertices = omega (arith, edges_all, open_count-none g.vertices) in
    subst (λ (m : ℕ). 1 + split_count solved.tree < 2 ^ m) all
    (splits-lt (all_left g) d solved.tree k leaf at (omega (arith, some)) (all_lessen g d solved.tree (IsDecisionFor-nothing g) holds.valid))

-- so with enough splits it is optimal
pub enough_optimal : (asked : SplitKind) (g : Graph) (first_length allowed : ℕ) (solved : Solved) → IsSolved g first_length solved →
    (asked ≡ kind.Edges → SplitsEdges solved.tree) → (solved.optimal ≡ false → split_count solved.tree ≡ allowed) →
    ways_of asked g ≤ allowed + 1 → solved.optimal ≡ true
enough_optimal asked g first_length allowed solved holds edges stops enough = grind (arith, splits_left)
