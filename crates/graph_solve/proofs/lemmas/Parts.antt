-- What is said of the edges of a file is said of those of its graph, and back.
use Rattle.std.specs.Prelude.{ℕ, ◌≡◌, ◌+◌, ◌<◌, List, [], ◌∷◌, length, get_or, map, sum_by, slice_get, Some, All, IsTrue, option_map}
use Rattle.std.proofs.Common.{ap, sym, ◌∙◌, subst, refl, arith}
use Rattle.std.proofs.lemmas.List.{length-map, get_or-map}
use Rattle.std.proofs.lemmas.List.Sums.{sum_by-cons}
use Rattle.std.proofs.lemmas.Grind.{common_steps}
use Rattle.std.proofs.lemmas.Option.{slice_get-map, slice_get_within, slice_get-get_or, same_Some}
use Rattle.stp_format.specs.declared.edge.StpEdge.{StpEdge}
use Rattle.stp_format.specs.Value.{StpValue, is_node}
use Rattle.net_graph.specs.declared.edge.Edge.{Edge}
use Rattle.net_graph.specs.Distinct.{distinct_of}
use Rattle.net_graph.specs.Fault.{IsFirst}
use Rattle.graph_solve.specs.Task.{vertex_of, edge_of, total_of_stp}
use Rattle.graph_solve.specs.Fault.{HasTerminal, HasLengths, IsFirstWithoutLength}

-- the sum of the lengths
pub sum-edges : (edges : List StpEdge) → sum_by (λ (e : Edge). e.length) (map edge_of edges) ≡
    sum_by (λ (e : StpEdge). e.length) edges
sum-edges [] = refl
sum-edges (e ∷ edges) =
    omega (
      arith,
      sum-edges edges,
      sum_by-cons (λ (x : Edge). x.length) (edge_of e) (map edge_of edges),
      sum_by-cons (λ (x : StpEdge). x.length) e edges,
    )

-- each edge has a length
pub lengths-edges : (edges : List StpEdge) → All (λ (e : Edge). 0 < e.length) (map edge_of edges) →
    All (λ (e : StpEdge). 0 < e.length) edges
lengths-edges edges each k e within =
    grind (arith, length-map edges edge_of, get_or-map edge_of edges k e (edge_of e) within)

-- the vertex of a node
pub vertex_of-below : (nodes node : ℕ) → IsTrue (is_node nodes node) → vertex_of node < nodes
vertex_of-below nodes node is = grind (arith, common_steps)

-- some edge
nowhere : StpEdge
nowhere = record { i = 0; j = 0; length = 0 }

-- the first edge without a length
pub IsFirst-edges : (edges : List StpEdge) (place : ℕ) → IsFirst (λ (e : Edge). e.length ≡ 0) (map edge_of edges) place →
    IsFirst (λ (e : StpEdge). e.length ≡ 0) edges place
IsFirst-edges edges place first =
    let low = slice_get_within (map edge_of edges) place first.here.0 first.here.1 in
    let within : place < length edges = omega (arith, low, length-map edges edge_of) in
    let e : StpEdge = get_or edges place nowhere in
    let at : slice_get edges place ≡ Some e = slice_get-get_or edges place nowhere within in
    let there : slice_get (map edge_of edges) place ≡ Some (edge_of e) =
    slice_get-map edge_of edges place ∙ ap (option_map edge_of) at in
    let same : first.here.0 ≡ edge_of e = same_Some first.here.0 (edge_of e) (sym first.here.1 ∙ there) in
    record {
      here = (e, at, ap (λ (x : Edge). x.length) (sym same) ∙ first.here.2);
      before = λ k x earlier is none. first.before k (edge_of x) earlier
          (slice_get-map edge_of edges k ∙ ap (option_map edge_of) is) none;
    }

-- a file with a terminal has one that is left
pub terminals-left : (terminals : List ℕ) → 0 < length terminals → distinct_of (map vertex_of terminals) ≡ [] → ⊥
terminals-left [] some none = omega arith
terminals-left (t ∷ terminals) some none = cc

-- the lengths of a file whose graph's edges have lengths
pub HasLengths-from_edges : (file : StpValue) (edges : List Edge) → HasTerminal file → edges ≡ map edge_of file.edges →
    All (λ e. 0 < e.length) edges → HasLengths file
HasLengths-from_edges file edges terminal same each = grind (arith, lengths-edges)

-- the total of a file whose graph has these edges
pub total-edges : (file : StpValue) (edges : List Edge) → edges ≡ map edge_of file.edges →
    sum_by (λ (e : Edge). e.length) edges ≡ total_of_stp file
total-edges file edges same = ap (sum_by (λ (e : Edge). e.length)) same ∙ sum-edges file.edges

-- the first edge of a file without a length
pub IsFirstWithoutLength-from_edges : (file : StpValue) (edges : List Edge) (place : ℕ) →
    edges ≡ map edge_of file.edges → IsFirst (λ e. e.length ≡ 0) edges place → IsFirstWithoutLength file (place + 1)
IsFirstWithoutLength-from_edges file edges place same first =
    (place, refl, IsFirst-edges file.edges place (subst (λ es. IsFirst (λ (e : Edge). e.length ≡ 0) es place) same first))
