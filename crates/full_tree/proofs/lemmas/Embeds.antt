-- What the edges on the pieces of a tree come to: how they add up, and what they join.
use Rattle.std.proofs.Common.{ℕ, zero, suc, ◌+◌, ◌≤◌, ◌≡◌, Bool, true, false, List, [], ◌∷◌, ◌++◌, length, replicate, take, get_or, map, slice_get, Some, refl, sym, subst, inl, inr, ⊎_elim, arith}
use Rattle.std.specs.Prelude.{All, Contains, ◌↔◌}
use Rattle.std.proofs.lemmas.List.{take_more, take_all}
use Rattle.std.proofs.lemmas.List.Sums.{sum_by-append, sum_by-cons}
use Rattle.std.proofs.lemmas.List.Elements.{All-contains, All-head, All-tail, Contains-push, Contains-push_cases, Contains-append_left, Contains-get_or}
use Rattle.std.proofs.lemmas.Option.{get_or_from_slice_get, slice_get_within}
use Rattle.points_in.specs.declared.point.Point.{Point}
use Rattle.net_graph.specs.Adds.{Adds}
use Rattle.net_graph.specs.AddsLaws.{Adds-then, Adds-holds}
use Rattle.net_graph.specs.JoinsLaws.{Joins-from}
use Rattle.net_graph.specs.LengthLaws.{length_of_edges-none}
use Rattle.net_graph.specs.Network.{Links, Joins}
use Rattle.net_graph.specs.Search.{Leads}
use Rattle.net_graph.specs.SearchLaws.{Leads-start, Leads-trans}
use Rattle.hanan_grid.specs.Grid.{xs_of, ys_of, vertex_of, hanan_grid_of}
use Rattle.hanan_grid.specs.Stretch.{IsOnStretch, IsGridStretch}
use Rattle.hanan_grid.specs.StretchLaws.{length_of-adds_stretch, Leads-stretch, IsVertexOnStretch-to}
use Rattle.full_tree.specs.declared.straight.Piece.{Piece}
use Rattle.full_tree.specs.declared.code.TreeCode.{TreeCode}
use Rattle.full_tree.specs.Geometry.{point_at}
use Rattle.full_tree.specs.Code.{named_places, members_of}
use Rattle.full_tree.specs.Pieces.{pieces_of, length_of_piece}
use Rattle.full_tree.specs.Joined.{IsStraight, IsOnGrid, GrowsFrom, HangsTogether, ends_of, JoinsMembers}
use Rattle.full_tree.specs.Embedded.{IsOnPiece, terminal_vertex, member_vertices, Embeds}
use Rattle.full_tree.specs.MembersLaws.{Contains-from_ascending_places}

-- ---- how they add up

-- a straight piece on the grid is a stretch of the grid
pub piece_stretch : (ps : List Point) (p : Piece) → IsStraight p → IsOnGrid ps p →
    IsGridStretch ps p.from p.to
piece_stretch ps p straight on = record { straight = straight; from = on.from; to = on.to }

-- nothing is embedded at first
pub Embeds-none : (ps : List Point) (pieces : List Piece) (size : ℕ) (set : List Bool) →
    size ≡ length (hanan_grid_of ps).edges →
    set ≡ replicate size false → Embeds ps (take 0 pieces) set
Embeds-none ps pieces size set whole empty = grind (arith, length_of_edges-none)

-- one piece more
Embeds-push : (ps : List Point) (pieces : List Piece) (p : Piece) (old new : List Bool) →
    IsGridStretch ps p.from p.to →
    Embeds ps pieces old → Adds (IsOnStretch ps p.from p.to) old new → Embeds ps (pieces ++ p ∷ []) new
Embeds-push ps pieces p old new is before adds = record {
  edges = Adds-then (IsOnPiece ps pieces) (IsOnStretch ps p.from p.to) (IsOnPiece ps (pieces ++ p ∷ []))
      (replicate (length (hanan_grid_of ps).edges) false) old new before.edges adds
      (λ e on. (on.0, Contains-append_left pieces (p ∷ []) on.0 on.1, on.2))
      (λ e on. (p, Contains-push pieces p, on))
      (λ e on. ⊎_elim (λ earlier. inl (on.0, earlier, on.2))
      (λ last. inr (subst (λ (q : Piece). IsOnStretch ps q.from q.to e) (sym last) on.2)) (Contains-push_cases pieces p on.0 on.1));
  length = omega (
    arith,
    before.length,
    length_of-adds_stretch ps p.from p.to old new is adds,
    sum_by-append length_of_piece pieces (p ∷ []),
    sum_by-cons length_of_piece p [],
  );
}

-- .. as a loop over the pieces' numbers comes to it
pub Embeds-more : (ps : List Point) (pieces : List Piece) (n : ℕ) (p : Piece) (old new : List Bool) →
    slice_get pieces n ≡ Some p →
    IsGridStretch ps p.from p.to → Embeds ps (take n pieces) old → Adds (IsOnStretch ps p.from p.to) old new →
    Embeds ps (take (n + 1) pieces) new
Embeds-more ps pieces n p old new at is before adds =
    grind (arith, slice_get_within pieces n p, take_more pieces n p (slice_get_within pieces n p at), get_or_from_slice_get pieces n p p, Embeds-push ps (take n pieces) p old new is before adds)

-- .. up to the last of them
pub Embeds-all : (ps : List Point) (pieces : List Piece) (n : ℕ) (set : List Bool) → length pieces ≤ n →
    Embeds ps (take n pieces) set → Embeds ps pieces set
Embeds-all ps pieces n set whole embeds = subst (λ qs. Embeds ps qs set) (take_all n pieces whole) embeds

-- a set in which pieces are embedded holds just the edges on them
pub Embeds-edges : (ps : List Point) (pieces : List Piece) (set : List Bool) → Embeds ps pieces set →
    (e : ℕ) → (slice_get set e ≡ Some true) ↔ IsOnPiece ps pieces e
Embeds-edges ps pieces set embeds e =
    (Adds-holds (IsOnPiece ps pieces) (length (hanan_grid_of ps).edges) set embeds.edges e, embeds.edges.put e)

-- ---- what they join

-- a point's vertex
abbrev vertex_at : List Point → Point → ℕ
vertex_at ps p = vertex_of (xs_of ps) (ys_of ps) p

-- what holds of the first piece's ends and of the others' holds of all ends
ends_cases : (P : Point → Type 0) (p : Piece) (pieces : List Piece) → P p.from → P p.to →
    ((q : Point) → Contains (ends_of pieces) q → P q) → (q : Point) → Contains (ends_of (p ∷ pieces)) q → P q
ends_cases P p pieces first second others q listed = grind arith

-- the set has all edges on each piece, which is a stretch of the grid
abbrev HoldsPieces : List Point → List Bool → List Piece → Type 0
HoldsPieces ps set pieces =
    All (λ p. IsGridStretch ps p.from p.to × ((e : ℕ) → IsOnStretch ps p.from p.to e → slice_get set e ≡ Some true)) pieces

-- what leads to where pieces grow from leads to all their ends
grown_led : (ps : List Point) (set : List Bool) (start : ℕ) (reached : List Point) (pieces : List Piece) →
    ((q : Point) → Contains reached q → Leads (Links (hanan_grid_of ps) set) start (vertex_at ps q)) →
    GrowsFrom reached pieces → HoldsPieces ps set pieces →
    (q : Point) → Contains (ends_of pieces) q → Leads (Links (hanan_grid_of ps) set) start (vertex_at ps q)
grown_led ps set start reached [] led grows holds = λ q listed. absurd (omega (arith, listed.1))
grown_led ps set start reached (p ∷ pieces) led grows holds =
    let Step = Links (hanan_grid_of ps) set in
    let Held = λ (x : Piece). IsGridStretch ps x.from x.to × ((e : ℕ) → IsOnStretch ps x.from x.to e → slice_get set e ≡ Some true) in
    let here = All-head Held p pieces holds in
    let from = led p.from grows.0 in
    let along = Leads-stretch ps p.from p.to set (vertex_at ps p.to) here.0 here.1 (IsVertexOnStretch-to ps p.from p.to here.0) in
    let to = Leads-trans Step start (vertex_at ps p.from) (vertex_at ps p.to) from along in
    ends_cases (λ q. Leads Step start (vertex_at ps q)) p pieces from to
    (grown_led ps set start (p.to ∷ reached) pieces (reached_led ps set start p.to reached to led) grows.1 (All-tail Held p pieces holds))
  where
    reached_led : (ps : List Point) (set : List Bool) (start : ℕ) (p : Point) (reached : List Point) →
        Leads (Links (hanan_grid_of ps) set) start (vertex_at ps p) →
        ((q : Point) → Contains reached q → Leads (Links (hanan_grid_of ps) set) start (vertex_at ps q)) →
        (q : Point) → Contains (p ∷ reached) q → Leads (Links (hanan_grid_of ps) set) start (vertex_at ps q)
    reached_led ps set start p reached to led q (zero, within, is) = subst (λ r. Leads (Links (hanan_grid_of ps) set) start (vertex_at ps r)) is to
    reached_led ps set start p reached to led q (suc k, within, is) = led q (k, omega arith, is)

-- pieces that hang together lead from the first one's beginning to all their ends
together_led : (ps : List Point) (set : List Bool) (p : Piece) (pieces : List Piece) →
    HangsTogether (p ∷ pieces) →
    HoldsPieces ps set (p ∷ pieces) → (q : Point) → Contains (ends_of (p ∷ pieces)) q →
    Leads (Links (hanan_grid_of ps) set) (vertex_at ps p.from) (vertex_at ps q)
together_led ps set p pieces hangs holds =
    let Step = Links (hanan_grid_of ps) set in
    let Held = λ (x : Piece). IsGridStretch ps x.from x.to × ((e : ℕ) → IsOnStretch ps x.from x.to e → slice_get set e ≡ Some true) in
    let start = vertex_at ps p.from in
    let here = All-head Held p pieces holds in
    let from = Leads-start Step start in
    let to = Leads-stretch ps p.from p.to set (vertex_at ps p.to) here.0 here.1 (IsVertexOnStretch-to ps p.from p.to here.0) in
    ends_cases (λ q. Leads Step start (vertex_at ps q)) p pieces from to
    (grown_led ps set start (p.to ∷ p.from ∷ []) pieces (two_led (λ q. Leads Step start (vertex_at ps q)) p from to) hangs (All-tail Held p pieces holds))
  where
    two_led : (P : Point → Type 0) (p : Piece) → P p.from → P p.to → (q : Point) → Contains (p.to ∷ p.from ∷ []) q → P q
    two_led P p from to q (zero, within, is) = subst P is to
    two_led P p from to q (suc zero, within, is) = subst P is from
    two_led P p from to q (suc (suc k), within, is) = absurd (omega (arith, within))

-- .. so that each two of their ends are joined
ends_joined : (ps : List Point) (set : List Bool) (pieces : List Piece) (vertices : List ℕ) →
    HangsTogether pieces →
    HoldsPieces ps set pieces →
    ((v : ℕ) → Contains vertices v → (q : Point) × Contains (ends_of pieces) q × (vertex_at ps q ≡ v)) →
    Joins (hanan_grid_of ps) set vertices
ends_joined ps set [] vertices hangs holds found = λ v w listed listed'. absurd (omega (arith, ((found v listed).1).1))
ends_joined ps set (p ∷ pieces) vertices hangs holds found =
    Joins-from (hanan_grid_of ps) set (vertex_at ps p.from) vertices (λ v listed.
    let at = found v listed in
    subst (Leads (Links (hanan_grid_of ps) set) (vertex_at ps p.from)) at.2 (together_led ps set p pieces hangs holds at.0 at.1))

-- a member of a mapped list comes from a member
Contains-from_map : {X : Type 0} (f : X → ℕ) (xs : List X) (v : ℕ) → Contains (map f xs) v →
    (x : X) × Contains xs x × (f x ≡ v)
Contains-from_map f [] v listed = absurd (omega (arith, listed.1))
Contains-from_map f (x ∷ xs) v (zero, within, is) = (x, (0, omega arith, refl), is)
Contains-from_map f (x ∷ xs) v (suc k, within, is) =
    let later = Contains-from_map f xs v (k, omega arith, is) in
    (later.0, (suc (later.1).0, omega (arith, (later.1).1), (later.1).2), later.2)

-- the edges on the pieces of a code that join its members join their vertices
pub members_joined : (ps : List Point) (code : TreeCode) (set : List Bool) → JoinsMembers ps code →
    Embeds ps (pieces_of ps code) set → Joins (hanan_grid_of ps) set (member_vertices ps code)
members_joined ps code set joins embeds =
    let pieces = pieces_of ps code in
    ends_joined ps set pieces (member_vertices ps code) joins.together
    (λ k d within. let p = get_or pieces k d in (
      piece_stretch ps p (joins.straight k d within) (joins.on_grid k d within),
      λ e on. embeds.edges.put e (p, Contains-get_or pieces k d within, on),
    ))
    (λ v listed. let member = Contains-from_map (terminal_vertex ps) (members_of code) v listed in
    let named = Contains-from_ascending_places (named_places code) member.0 member.1 in
    (point_at ps member.0, All-contains (λ k. Contains (ends_of pieces) (point_at ps k)) (named_places code) member.0 joins.members named, member.2))
