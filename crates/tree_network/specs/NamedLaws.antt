-- Laws of the trees that places name.
use Rattle.std.specs.Prelude.{ℕ, zero, suc, ◌≡◌, ◌+◌, ◌<◌, Bool, true, false, List, [], ◌∷◌, length, map, get_or}
use Rattle.std.specs.Prelude.{slice_get, Some, All, Contains}
use Rattle.std.proofs.Common.{ap, sym, ◌∙◌, subst, arith}
use Rattle.std.proofs.lemmas.List.{length-map, get_or-map}
use Rattle.std.proofs.lemmas.List.Elements.{All-nil, All-cons, All-weaker, Contains-append_right}
use Rattle.points_in.specs.declared.point.Point.{Point}
use Rattle.net_graph.specs.Members.{members_from, members_of}
use Rattle.net_graph.specs.Network.{Links, Joins, IsNetwork}
use Rattle.net_graph.specs.Search.{Leads}
use Rattle.net_graph.specs.SearchLaws.{Leads-start, Leads-trans, Leads-keeps}
use Rattle.hanan_grid.specs.Distance.{origin}
use Rattle.hanan_grid.specs.Grid.{xs_of, ys_of, vertex_of, hanan_grid_of}
use Rattle.full_tree.specs.declared.code.Tree.{Tree}
use Rattle.full_tree.specs.Code
use Rattle.full_tree.specs.Embedded.{terminal_vertex, member_vertices}
use Rattle.concatenation.specs.Concatenation.{SharesTree, IsConcatenation}

-- ---- the places of a set

-- numbers below a sum, added up in another order
below_next : (n size : ℕ) (ks : List ℕ) → All (λ k. k < n + 1 + size) ks → All (λ k. k < n + suc size) ks
below_next n size ks each = All-weaker (λ k. k < n + 1 + size) (λ k. k < n + suc size) (λ k below. omega arith) ks each

-- each is a place of its flags
members_from-below : (n : ℕ) (set : List Bool) → All (λ k. k < n + length set) (members_from n set)
members_from-below n [] = All-nil (λ k. k < n + 0)
members_from-below n (true ∷ set) =
    All-cons (λ k. k < n + suc (length set)) n (members_from (n + 1) set) (omega arith)
    (below_next n (length set) (members_from (n + 1) set) (members_from-below (n + 1) set))
members_from-below n (false ∷ set) =
    below_next n (length set) (members_from (n + 1) set) (members_from-below (n + 1) set)

-- the places of a set of a list's trees are places of the list
pub places-below : (trees : List Tree) (places : List ℕ) (set : List Bool) → places ≡ members_of set →
    length set ≡ length trees → All (λ k. k < length trees) places
places-below trees places set named size =
    let below = All-weaker (λ k. k < 0 + length set) (λ k. k < length trees) (λ k low. omega (arith, low, size))
    (members_of set) (members_from-below 0 set) in
    subst (All (λ k. k < length trees)) (sym named) below

-- a place whose flag is set is one of the places
Contains-members_from : (n : ℕ) (set : List Bool) (k : ℕ) → slice_get set k ≡ Some true →
    Contains (members_from n set) (n + k)
Contains-members_from n [] k inside = absurd cc
Contains-members_from n (true ∷ set) zero inside = (0, omega arith, omega arith)
Contains-members_from n (false ∷ set) zero inside = absurd cc
Contains-members_from n (true ∷ set) (suc k) inside =
    let there : n + 1 + k ≡ n + suc k = omega arith in
    let later = subst (Contains (members_from (n + 1) set)) there (Contains-members_from (n + 1) set k inside) in
    Contains-append_right (n ∷ []) (members_from (n + 1) set) (n + suc k) later
Contains-members_from n (false ∷ set) (suc k) inside =
    let there : n + 1 + k ≡ n + suc k = omega arith in
    subst (Contains (members_from (n + 1) set)) there (Contains-members_from (n + 1) set k inside)

-- .. of the set
pub Contains-members_of : (set : List Bool) (k : ℕ) → slice_get set k ≡ Some true → Contains (members_of set) k
Contains-members_of set k inside =
    let there : 0 + k ≡ k = omega arith in
    subst (Contains (members_of set)) there (Contains-members_from 0 set k inside)

-- ---- networks of concatenations

-- a member of a list is one of the mapped list
Contains-map : {X : Type 0} (f : X → ℕ) (xs : List X) (x : X) → Contains xs x → Contains (map f xs) (f x)
Contains-map f xs x (k, within, is) = (k, omega (arith, length-map xs f), get_or-map f xs k x (f x) within ∙ ap f is)

-- the vertex of the terminal at a place of the list
terminal_at : (ps : List Point) (k v : ℕ) → k < length ps →
    get_or (hanan_grid_of ps).terminals k v ≡ terminal_vertex ps k
terminal_at ps k v within = get_or-map (vertex_of (xs_of ps) (ys_of ps)) ps k origin v within

-- the edges join the members of each tree of the set
abbrev pub JoinsTrees : List Point → List Tree → List Bool → List Bool → Type 0
JoinsTrees ps trees set edges = (k : ℕ) (tree : Tree) → slice_get set k ≡ Some true → slice_get trees k ≡ Some tree
    → Joins (hanan_grid_of ps) edges (member_vertices ps tree.code)

-- they lead from a member of a tree to each other one
shared_leads : (ps : List Point) (trees : List Tree) (set edges : List Bool) → JoinsTrees ps trees set edges →
    (i j : ℕ) → SharesTree trees set i j →
    Leads (Links (hanan_grid_of ps) edges) (terminal_vertex ps i) (terminal_vertex ps j)
shared_leads ps trees set edges joins i j (k, tree, inside, there, first, second) =
    joins k tree inside there (terminal_vertex ps i) (terminal_vertex ps j)
    (Contains-map (terminal_vertex ps) (Code.members_of tree.code) i first)
    (Contains-map (terminal_vertex ps) (Code.members_of tree.code) j second)

-- edges that join the members of each tree of a concatenation are a network
pub IsNetwork-from_concatenation : (ps : List Point) (trees : List Tree) (set edges : List Bool) →
    JoinsTrees ps trees set edges → IsConcatenation (length ps) trees set → IsNetwork (hanan_grid_of ps) edges
IsNetwork-from_concatenation ps trees set edges joins whole k v inside =
    let Step = Links (hanan_grid_of ps) edges in
    let root = terminal_vertex ps 0 in
    let within : k < length ps = omega (arith, length-map ps (vertex_of (xs_of ps) (ys_of ps))) in
    let led = Leads-keeps (SharesTree trees set) (λ i. Leads Step root (terminal_vertex ps i)) 0 k
    (Leads-start Step root)
    (λ i j so_far shared. Leads-trans Step root (terminal_vertex ps i) (terminal_vertex ps j) so_far
    (shared_leads ps trees set edges joins i j shared)) (whole.joins k within) in
    rw (terminal_at ps 0 0 (omega arith), terminal_at ps k v within) led
