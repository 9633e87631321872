-- All edges of a grid together are a network, which uses each of them.
use Rattle.std.proofs.Common.{ℕ, ◌≡◌, ◌<◌, Bool, true, List, [], ◌∷◌, length, replicate, get_or, slice_get, Some, inl, inr, refl, subst, ◌∙◌, ap, arith}
use Rattle.std.proofs.lemmas.List.{get_or-replicate, length-map, length-replicate}
use Rattle.std.proofs.lemmas.List.Elements.{All-weaker, All-get_or}
use Rattle.std.proofs.lemmas.Option.{slice_get-get_or, slice_get_within}
use Rattle.points_in.specs.declared.point.Point.{Point}
use Rattle.net_graph.specs.Graph.{HasEndsBelow, IsGraph}
use Rattle.net_graph.specs.Network.{IsNetwork, Links, Reaches}
use Rattle.net_graph.specs.Decision.{InRootPart}
use Rattle.net_graph.specs.Search.{Leads}
use Rattle.net_graph.specs.SearchLaws.{Leads-trans}
use Rattle.hanan_grid.specs.Grid.{hanan_grid_of, vertex_of, xs_of, ys_of}
use Rattle.hanan_grid.specs.GridLaws.{Contains-xs_of, Contains-ys_of, IsRising-xs_of, IsRising-ys_of, ends_below, terminals_below}
use Rattle.hanan_grid.specs.Names.{IsCrossing, no_edge, point_of_vertex}
use Rattle.hanan_grid.specs.NamesLaws.{IsCrossing-point_of_vertex, vertex_of-point_of_vertex}
use Rattle.hanan_grid.specs.Stretch.{IsGridStretch}
use Rattle.hanan_grid.specs.StretchLaws.{IsVertexOnStretch-to, Leads-stretch}
use Rattle.graph_solve.specs.Task.{all_edges as set_of_all}
use Rattle.edge_slack.specs.EdgeBound.{IsInSomeNetwork}

-- all edges of the grid
abbrev all_edges : List Point → List Bool
all_edges ps = replicate (length (hanan_grid_of ps).edges) true

-- .. each of which is one
has_edge : (ps : List Point) (e : ℕ) → e < length (hanan_grid_of ps).edges → slice_get (all_edges ps) e ≡ Some true
has_edge ps e within =
    let count = length (hanan_grid_of ps).edges in
    slice_get-get_or (all_edges ps) e true (omega (arith, length-replicate count true))
    ∙ ap Some (get_or-replicate count e true true within)

-- they lead from one end of a stretch to the other
stretch_leads : (ps : List Point) (p q : Point) → IsGridStretch ps p q →
    Leads (Links (hanan_grid_of ps) (all_edges ps)) (vertex_of (xs_of ps) (ys_of ps) p)
    (vertex_of (xs_of ps) (ys_of ps) q)
stretch_leads ps p q is =
    Leads-stretch ps p q (all_edges ps) (vertex_of (xs_of ps) (ys_of ps) q) is
    (λ e on. has_edge ps e (slice_get_within (hanan_grid_of ps).edges e on.0 on.1)) (IsVertexOnStretch-to ps p q is)

-- .. and from each crossing to each other, by the corner in the row of the one and the column of the other
crossings_lead : (ps : List Point) (p q : Point) → IsCrossing (xs_of ps) (ys_of ps) p →
    IsCrossing (xs_of ps) (ys_of ps) q →
    Leads (Links (hanan_grid_of ps) (all_edges ps)) (vertex_of (xs_of ps) (ys_of ps) p)
    (vertex_of (xs_of ps) (ys_of ps) q)
crossings_lead ps p q from to =
    let corner : Point = record { x = q.x; y = p.y } in
    let at : IsCrossing (xs_of ps) (ys_of ps) corner = record { x = to.x; y = from.y } in
    Leads-trans (Links (hanan_grid_of ps) (all_edges ps)) (vertex_of (xs_of ps) (ys_of ps) p)
    (vertex_of (xs_of ps) (ys_of ps) corner) (vertex_of (xs_of ps) (ys_of ps) q)
    (stretch_leads ps p corner (record { straight = inr refl; from = from; to = at }))
    (stretch_leads ps corner q (record { straight = inl refl; from = at; to = to }))

-- so each vertex is reached
all_reached : (ps : List Point) (v : ℕ) → 0 < length ps → v < (hanan_grid_of ps).vertices →
    Reaches (hanan_grid_of ps) (all_edges ps) v
all_reached [] v some within = absurd (omega arith)
all_reached (p ∷ rest) v some within =
    let ps = p ∷ rest in
    let xs = xs_of ps in
    let ys = ys_of ps in
    subst (λ w. Reaches (hanan_grid_of ps) (all_edges ps) w)
    (vertex_of-point_of_vertex xs ys v (IsRising-xs_of ps) (IsRising-ys_of ps) within)
    (crossings_lead ps p (point_of_vertex xs ys v)
    (record { x = Contains-xs_of ps 0 p some; y = Contains-ys_of ps 0 p some })
    (IsCrossing-point_of_vertex xs ys v within))

-- they are a network
all_edges_join : (ps : List Point) → 0 < length ps → IsNetwork (hanan_grid_of ps) (all_edges ps)
all_edges_join ps some =
    All-weaker (λ t. t < (hanan_grid_of ps).vertices) (Reaches (hanan_grid_of ps) (all_edges ps))
    (λ t below. all_reached ps t some below) (hanan_grid_of ps).terminals (terminals_below ps)

-- .. whose root part holds each edge
all_edges_used : (ps : List Point) (e : ℕ) → 0 < length ps → e < length (hanan_grid_of ps).edges →
    InRootPart (hanan_grid_of ps) (all_edges ps) e
all_edges_used ps e some within =
    let g = hanan_grid_of ps in
    let edge = get_or g.edges e no_edge in
    let ends : HasEndsBelow g.vertices edge =
    All-get_or (HasEndsBelow g.vertices) g.edges e no_edge within (ends_below (xs_of ps) (ys_of ps)) in
    (edge, has_edge ps e within, slice_get-get_or g.edges e no_edge within, inl (all_reached ps edge.a some ends.a))

-- so some network uses it
pub IsInSomeNetwork-grid : (ps : List Point) (e : ℕ) → IsGraph (hanan_grid_of ps) →
    e < length (hanan_grid_of ps).edges → IsInSomeNetwork (hanan_grid_of ps) e
IsInSomeNetwork-grid ps e sound within =
    let some : 0 < length ps =
    (let terminal = sound.terminal in omega (arith, length-map ps (vertex_of (xs_of ps) (ys_of ps)))) in
    (all_edges ps, all_edges_join ps some, all_edges_used ps e some within)

-- All edges of a grid together are a network.
pub IsNetwork-grid : (ps : List Point) → IsGraph (hanan_grid_of ps) →
    IsNetwork (hanan_grid_of ps) (set_of_all (hanan_grid_of ps))
IsNetwork-grid ps sound =
    all_edges_join ps
    (let terminal = sound.terminal in omega (arith, length-map ps (vertex_of (xs_of ps) (ys_of ps))))
