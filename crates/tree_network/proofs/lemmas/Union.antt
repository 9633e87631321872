-- What the trees at places of a list put into a set of edges, and what that joins.
use Rattle.std.proofs.Common.{◌⊎◌, ℕ, ◌≡◌, ◌+◌, ◌<◌, ◌≤◌, Bool, true, false, List, [], ◌∷◌, ◌++◌, length, get_or, take, replicate, slice_get, Some, sym, ap, ◌∙◌, subst, inl, inr, ⊎_elim, arith}
use Rattle.std.specs.Prelude.{Contains, ◌↔◌, sum_by}
use Rattle.std.proofs.lemmas.List.{take_more, take_all}
use Rattle.std.proofs.lemmas.List.Sums.{sum_by-append, sum_by-cons}
use Rattle.std.proofs.lemmas.List.Elements.{Contains-append_left, Contains-push, Contains-push_cases}
use Rattle.std.proofs.lemmas.Option.{same_Some}
use Rattle.points_in.specs.declared.point.Point.{Point}
use Rattle.net_graph.specs.Adds.{Adds}
use Rattle.net_graph.specs.AddsLaws.{Adds-nothing, Adds-then, Adds-holds}
use Rattle.net_graph.specs.Flags.{IsSubset}
use Rattle.net_graph.specs.Joins.{slice_get-has, has-slice_get}
use Rattle.net_graph.specs.JoinsLaws.{Joins-subset}
use Rattle.net_graph.specs.LengthLaws.{length_of_edges-none, length_of_edges-union}
use Rattle.net_graph.specs.Members.{members_of}
use Rattle.net_graph.specs.Network.{Joins, IsNetwork, length_of}
use Rattle.hanan_grid.specs.Grid.{hanan_grid_of}
use Rattle.full_tree.specs.declared.code.Tree.{Tree}
use Rattle.full_tree.specs.Pieces.{pieces_of}
use Rattle.full_tree.specs.Embedded.{IsOnPiece, member_vertices}
use Rattle.concatenation.specs.Concatenation.{IsConcatenation, total_of}
use Rattle.tree_network.specs.Named.{IsOnNamed}
use Rattle.tree_network.specs.NamedLaws.{Contains-members_of, IsNetwork-from_concatenation}
use Rattle.tree_network.proofs.lemmas.Sums.{length_if, length_at, sum_of_places}

-- A set that was empty holds the edges of the trees at the places, joins the members of each, and is no longer than
-- they are.
pub record IsUnion (ps : List Point) (trees : List Tree) (places : List ℕ) (set : List Bool) : Type 0 where
  pub edges : Adds (IsOnNamed ps trees places) (replicate (length (hanan_grid_of ps).edges) false) set
  pub joins : (k : ℕ) (tree : Tree) → Contains places k → slice_get trees k ≡ Some tree →
      Joins (hanan_grid_of ps) set (member_vertices ps tree.code)
  pub length : length_of (hanan_grid_of ps) set ≤ sum_by (length_at trees) places

-- The edges of one tree, as they are embedded.
pub record IsEmbedded (ps : List Point) (tree : Tree) (set : List Bool) : Type 0 where
  pub edges : (e : ℕ) → (slice_get set e ≡ Some true) ↔ IsOnPiece ps (pieces_of ps tree.code) e
  pub joins : Joins (hanan_grid_of ps) set (member_vertices ps tree.code)
  pub length : length_of (hanan_grid_of ps) set ≤ tree.length

-- no place, no edge
pub IsUnion-none : (ps : List Point) (trees : List Tree) (places : List ℕ) (size : ℕ) (set : List Bool) →
    size ≡ length (hanan_grid_of ps).edges → set ≡ replicate size false → IsUnion ps trees (take 0 places) set
IsUnion-none ps trees places size set whole empty =
    let edges = (hanan_grid_of ps).edges in
    let at : replicate (length edges) false ≡ set = ap (λ n. replicate n false) (sym whole) ∙ sym empty in
    let nothing : IsUnion ps trees [] (replicate (length edges) false) = record {
      edges = Adds-nothing (IsOnNamed ps trees []) (replicate (length edges) false) (λ e is. omega (arith, (is.2).1));
      joins = λ k tree listed there. absurd (omega (arith, listed.1));
      length = omega (arith, length_of_edges-none edges (length edges));
    } in
    subst (IsUnion ps trees []) at nothing

-- what holds the edges that another set has is larger
larger : (small large : List Bool) →
    ((e : ℕ) → slice_get small e ≡ Some true → slice_get large e ≡ Some true) → IsSubset small large
larger small large kept n is = has-slice_get large n (kept n (slice_get-has small n is))

-- there is one tree at a place
same_tree : (trees : List Tree) (j k : ℕ) (t tree : Tree) → k ≡ j → slice_get trees j ≡ Some t →
    slice_get trees k ≡ Some tree → tree ≡ t
same_tree trees j k t tree same there at = same_Some tree t (sym at ∙ ap (slice_get trees) same ∙ there)

-- an edge of the trees at the places and one more is on those trees or on that one
named_cases : (ps : List Point) (trees : List Tree) (places : List ℕ) (k : ℕ) (tree : Tree) (e : ℕ) →
    slice_get trees k ≡ Some tree → IsOnNamed ps trees (places ++ k ∷ []) e →
    IsOnNamed ps trees places e ⊎ IsOnPiece ps (pieces_of ps tree.code) e
named_cases ps trees places k tree e at (j, t, listed, there, on) =
    grind (arith, same_tree, Contains-push_cases places k j listed)

-- the members of each tree at the places and of one more are joined
named_joined : (ps : List Point) (trees : List Tree) (places : List ℕ) (k : ℕ) (tree : Tree) (own old new : List Bool) →
    slice_get trees k ≡ Some tree → IsEmbedded ps tree own → IsUnion ps trees places old →
    Adds (λ e. slice_get own e ≡ Some true) old new →
    (j : ℕ) (t : Tree) → Contains (places ++ k ∷ []) j → slice_get trees j ≡ Some t →
    Joins (hanan_grid_of ps) new (member_vertices ps t.code)
named_joined ps trees places k tree own old new at embedded before adds j t listed there =
    let g = hanan_grid_of ps in
    let AreJoined = λ (x : Tree). Joins g new (member_vertices ps x.code) in
    ⊎_elim
    (λ earlier. Joins-subset g old new (member_vertices ps t.code) (larger old new adds.kept) (before.joins j t earlier there))
    (λ last. subst AreJoined (same_tree trees j k t tree last there at)
    (Joins-subset g own new (member_vertices ps tree.code) (larger own new adds.put) embedded.joins))
    (Contains-push_cases places k j listed)

-- one tree more
IsUnion-push : (ps : List Point) (trees : List Tree) (places : List ℕ) (k : ℕ) (tree : Tree) (own old new : List Bool) →
    slice_get trees k ≡ Some tree → IsEmbedded ps tree own → IsUnion ps trees places old →
    Adds (λ e. slice_get own e ≡ Some true) old new → IsUnion ps trees (places ++ k ∷ []) new
IsUnion-push ps trees places k tree own old new at embedded before adds = record {
  edges = Adds-then (IsOnNamed ps trees places) (λ e. slice_get own e ≡ Some true)
      (IsOnNamed ps trees (places ++ k ∷ []))
      (replicate (length (hanan_grid_of ps).edges) false) old new before.edges adds
      (λ e on. (on.0, on.1, Contains-append_left places (k ∷ []) on.0 on.2, on.3, on.4))
      (λ e inside. (k, tree, Contains-push places k, at, (embedded.edges e).0 inside))
      (λ e on. ⊎_elim (λ earlier. inl earlier) (λ last. inr ((embedded.edges e).1 last))
      (named_cases ps trees places k tree e at on));
  joins = named_joined ps trees places k tree own old new at embedded before adds;
  length = omega (
    arith,
    before.length,
    embedded.length,
    length_of_edges-union (hanan_grid_of ps).edges new old own adds.only,
    sum_by-append (length_at trees) places (k ∷ []),
    sum_by-cons (length_at trees) k [],
    ap length_if at,
  );
}

-- .. as a loop over the places comes to it
pub IsUnion-more : (ps : List Point) (trees : List Tree) (places : List ℕ) (n : ℕ) (tree : Tree) (own old new : List Bool) →
    n < length places → slice_get trees (get_or places n 0) ≡ Some tree → IsEmbedded ps tree own →
    IsUnion ps trees (take n places) old → Adds (λ e. slice_get own e ≡ Some true) old new →
    IsUnion ps trees (take (n + 1) places) new
IsUnion-more ps trees places n tree own old new within at embedded before adds =
    subst (λ qs. IsUnion ps trees qs new) (sym (take_more places n 0 within))
    (IsUnion-push ps trees (take n places) (get_or places n 0) tree own old new at embedded before adds)

-- .. up to the last of them
pub IsUnion-all : (ps : List Point) (trees : List Tree) (places : List ℕ) (n : ℕ) (set : List Bool) →
    length places ≤ n → IsUnion ps trees (take n places) set → IsUnion ps trees places set
IsUnion-all ps trees places n set whole union = subst (λ qs. IsUnion ps trees qs set) (take_all n places whole) union

-- it holds just the edges of these trees
pub IsUnion-edges : (ps : List Point) (trees : List Tree) (places : List ℕ) (set : List Bool) →
    IsUnion ps trees places set → (e : ℕ) → (slice_get set e ≡ Some true) ↔ IsOnNamed ps trees places e
IsUnion-edges ps trees places set union e =
    (Adds-holds (IsOnNamed ps trees places) (length (hanan_grid_of ps).edges) set union.edges e, union.edges.put e)

-- of a concatenation it is a network
pub IsUnion-network : (ps : List Point) (trees : List Tree) (places : List ℕ) (edges set : List Bool) →
    IsUnion ps trees places edges → places ≡ members_of set → IsConcatenation (length ps) trees set →
    IsNetwork (hanan_grid_of ps) edges
IsUnion-network ps trees places edges set union named whole =
    IsNetwork-from_concatenation ps trees set edges (λ k tree inside there.
    union.joins k tree (subst (λ qs. Contains qs k) (sym named) (Contains-members_of set k inside)) there) whole

-- of a set it is no longer than the set's total
pub IsUnion-length : (ps : List Point) (trees : List Tree) (places : List ℕ) (edges set : List Bool) →
    IsUnion ps trees places edges → places ≡ members_of set →
    length_of (hanan_grid_of ps) edges ≤ total_of trees set
IsUnion-length ps trees places edges set union named =
    omega (arith, union.length, ap (sum_by (length_at trees)) named, sum_of_places trees set)
