-- What the length of an edge set comes to.
use Rattle.std.specs.Prelude.{ℕ, zero, suc, ◌≡◌, ◌+◌, ◌<◌, ◌≤◌, ◌^◌, Bool, true, false, List, [], ◌∷◌, length, slice_get, slice_set, slice_index_or, sum_by, replicate, take, Some, ◌⊎◌, if◌then◌else◌}
use Rattle.std.proofs.Common.{arith, refl, None, add-one, inl, inr, ⊎_elim}
use Rattle.std.proofs.lemmas.List.Sums.{sum_by-cons}
use Rattle.std.proofs.lemmas.Option.{same_Some}
use Rattle.net_graph.specs.declared.edge.Edge.{Edge}
use Rattle.net_graph.specs.Graph.{Graph, IsGraph}
use Rattle.net_graph.specs.Network.{length_of, length_of_edges}

-- the length among the first edges and one more
length_of_edges-take-suc : (edges : List Edge) (set : List Bool) (n : ℕ) (e : Edge) → n < length edges →
    n < length set →
    length_of_edges (take (suc n) edges) set ≡ length_of_edges (take n edges) set +
    (if slice_index_or set n false then (slice_index_or edges n e).length else 0)
length_of_edges-take-suc [] set n e edge_in flag_in = absurd (omega arith)
length_of_edges-take-suc (x ∷ edges) [] n e edge_in flag_in = absurd (omega arith)
length_of_edges-take-suc (x ∷ edges) (true ∷ set) zero e edge_in flag_in = omega arith
length_of_edges-take-suc (x ∷ edges) (false ∷ set) zero e edge_in flag_in = omega arith
length_of_edges-take-suc (x ∷ edges) (flag ∷ set) (suc n) e edge_in flag_in =
    omega (arith, length_of_edges-take-suc edges set n e (omega arith) (omega arith))

-- .. as a loop writes the next number
pub length_of_edges-take_more : (edges : List Edge) (set : List Bool) (n : ℕ) (e : Edge) → n < length edges →
    n < length set →
    length_of_edges (take (n + 1) edges) set ≡ length_of_edges (take n edges) set +
    (if slice_index_or set n false then (slice_index_or edges n e).length else 0)
length_of_edges-take_more edges set n e edge_in flag_in =
    rw add-one (length_of_edges-take-suc edges set n e edge_in flag_in)

-- no set is longer than all edges
pub length_of_edges-le-sum : (edges : List Edge) (set : List Bool) →
    length_of_edges edges set ≤ sum_by (λ e. e.length) edges
length_of_edges-le-sum [] set = omega arith
length_of_edges-le-sum (e ∷ edges) [] = omega arith
length_of_edges-le-sum (e ∷ edges) (true ∷ set) =
    omega (arith, length_of_edges-le-sum edges set, sum_by-cons (λ (e : Edge). e.length) e edges)
length_of_edges-le-sum (e ∷ edges) (false ∷ set) =
    omega (arith, length_of_edges-le-sum edges set, sum_by-cons (λ (e : Edge). e.length) e edges)

-- the empty set has no length
pub length_of_edges-none : (edges : List Edge) (n : ℕ) → length_of_edges edges (replicate n false) ≡ 0
length_of_edges-none [] n = refl
length_of_edges-none (e ∷ edges) zero = refl
length_of_edges-none (e ∷ edges) (suc n) = omega (arith, length_of_edges-none edges n)

-- an edge that is put in adds its length
pub length_of_edges-add : (edges : List Edge) (set : List Bool) (n : ℕ) (e : Edge) → slice_get set n ≡ Some false →
    slice_get edges n ≡ Some e → length_of_edges edges (slice_set set n true) ≡ length_of_edges edges set + e.length
length_of_edges-add [] set n e outside is = absurd cc
length_of_edges-add (x ∷ edges) [] n e outside is = absurd cc
length_of_edges-add (x ∷ edges) (false ∷ set) zero e outside is =
    let same : x ≡ e = same_Some x e is in rw same (omega arith)
length_of_edges-add (x ∷ edges) (true ∷ set) zero e outside is = absurd cc
length_of_edges-add (x ∷ edges) (true ∷ set) (suc n) e outside is =
    omega (arith, length_of_edges-add edges set n e outside is)
length_of_edges-add (x ∷ edges) (false ∷ set) (suc n) e outside is =
    omega (arith, length_of_edges-add edges set n e outside is)

-- an edge that is taken out takes its length with it
pub length_of_edges-remove : (edges : List Edge) (set : List Bool) (n : ℕ) (e : Edge) → slice_get set n ≡ Some true →
    slice_get edges n ≡ Some e → length_of_edges edges (slice_set set n false) + e.length ≡ length_of_edges edges set
length_of_edges-remove [] set n e inside is = absurd cc
length_of_edges-remove (x ∷ edges) [] n e inside is = absurd cc
length_of_edges-remove (x ∷ edges) (true ∷ set) zero e inside is =
    let same : x ≡ e = same_Some x e is in rw same (omega arith)
length_of_edges-remove (x ∷ edges) (false ∷ set) zero e inside is = absurd cc
length_of_edges-remove (x ∷ edges) (true ∷ set) (suc n) e inside is =
    omega (arith, length_of_edges-remove edges set n e inside is)
length_of_edges-remove (x ∷ edges) (false ∷ set) (suc n) e inside is =
    omega (arith, length_of_edges-remove edges set n e inside is)

-- no flags are no edges
length_of_edges-past : (edges : List Edge) → length_of_edges edges [] ≡ 0
length_of_edges-past [] = refl
length_of_edges-past (e ∷ edges) = refl

-- a set within another is no longer
pub length_of_edges-within : (edges : List Edge) (small large : List Bool) →
    ((n : ℕ) → slice_get small n ≡ Some true → slice_get large n ≡ Some true) →
    length_of_edges edges small ≤ length_of_edges edges large
length_of_edges-within [] small large within = omega arith
length_of_edges-within (x ∷ edges) [] large within = omega arith
length_of_edges-within (x ∷ edges) (true ∷ small) [] within = let here : None ≡ Some true = within 0 refl in absurd cc
length_of_edges-within (x ∷ edges) (false ∷ small) [] within =
    omega (arith, length_of_edges-within edges small [] (λ n inside. within (suc n) inside), length_of_edges-past edges)
length_of_edges-within (x ∷ edges) (true ∷ small) (true ∷ large) within =
    omega (arith, length_of_edges-within edges small large (λ n inside. within (suc n) inside))
length_of_edges-within (x ∷ edges) (true ∷ small) (false ∷ large) within = let here : Some false ≡ Some true =
    within 0 refl in absurd cc
length_of_edges-within (x ∷ edges) (false ∷ small) (true ∷ large) within =
    omega (arith, length_of_edges-within edges small large (λ n inside. within (suc n) inside))
length_of_edges-within (x ∷ edges) (false ∷ small) (false ∷ large) within =
    omega (arith, length_of_edges-within edges small large (λ n inside. within (suc n) inside))

-- no set is longer than 2^63 - 1
pub length_of-small : (g : Graph) (set : List Bool) → IsGraph g → length_of g set < 2 ^ 63
length_of-small g set graph = omega (arith, graph.total, length_of_edges-le-sum g.edges set)

-- the flags but the first
abbrev rest_of : List Bool → List Bool
rest_of [] = []
rest_of (flag ∷ set) = set

-- .. are the flags of the edges but the first
slice_get-rest_of : (set : List Bool) (n : ℕ) → slice_get set (suc n) ≡ Some true → slice_get (rest_of set) n ≡
    Some true
slice_get-rest_of [] n inside = absurd cc
slice_get-rest_of (flag ∷ set) n inside = inside

-- .. in one of two sets as before
among_rest : (set first second : List Bool) (n : ℕ) →
    (slice_get first (suc n) ≡ Some true) ⊎ (slice_get second (suc n) ≡ Some true) →
    (slice_get (rest_of first) n ≡ Some true) ⊎ (slice_get (rest_of second) n ≡ Some true)
among_rest set first second n either =
    ⊎_elim (λ here. inl (slice_get-rest_of first n here)) (λ here. inr (slice_get-rest_of second n here)) either

-- .. whose length is no more
length_of_edges-rest : (x : Edge) (edges : List Edge) (set : List Bool) →
    length_of_edges edges (rest_of set) ≤ length_of_edges (x ∷ edges) set
length_of_edges-rest x edges [] = omega (arith, length_of_edges-past edges)
length_of_edges-rest x edges (true ∷ set) = omega arith
length_of_edges-rest x edges (false ∷ set) = omega arith

-- .. and less by the first edge, where that is in the set
length_of_edges-first : (x : Edge) (edges : List Edge) (set : List Bool) → slice_get set 0 ≡ Some true →
    x.length + length_of_edges edges (rest_of set) ≤ length_of_edges (x ∷ edges) set
length_of_edges-first x edges [] inside = absurd cc
length_of_edges-first x edges (true ∷ set) inside = omega arith
length_of_edges-first x edges (false ∷ set) inside = absurd cc

-- a set whose edges are each in one of two sets is no longer than both
pub length_of_edges-union : (edges : List Edge) (set first second : List Bool) →
    ((n : ℕ) → slice_get set n ≡ Some true → (slice_get first n ≡ Some true) ⊎ (slice_get second n ≡ Some true)) →
    length_of_edges edges set ≤ length_of_edges edges first + length_of_edges edges second
length_of_edges-union [] set first second among = omega arith
length_of_edges-union (x ∷ edges) [] first second among = omega arith
length_of_edges-union (x ∷ edges) (false ∷ set) first second among =
    let rest = length_of_edges-union edges set (rest_of first) (rest_of second)
    (λ n inside. among_rest set first second n (among (suc n) inside)) in
    omega (arith, rest, length_of_edges-rest x edges first, length_of_edges-rest x edges second)
length_of_edges-union (x ∷ edges) (true ∷ set) first second among =
    let rest = length_of_edges-union edges set (rest_of first) (rest_of second)
    (λ n inside. among_rest set first second n (among (suc n) inside)) in
    ⊎_elim (λ here. omega (arith, rest, length_of_edges-first x edges first here, length_of_edges-rest x edges second))
    (λ here. omega (arith, rest, length_of_edges-rest x edges first, length_of_edges-first x edges second here))
    (among 0 refl)
