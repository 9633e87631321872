-- The graph has exactly those edges of the grid that cross no box.
use Rattle.std.specs.Prelude.{◌≡◌, Bool, true, not, List, [], ◌∷◌, filter, get_or, Contains}
use Rattle.std.proofs.Common.{sym, ap, subst, ◌∙◌, inl, inr}
use Rattle.std.proofs.lemmas.Bool.{cases_Bool, false≢true}
use Rattle.std.proofs.lemmas.List.Elements.{All-contains, All-filter, filter_passes}
use Rattle.std.proofs.lemmas.List.Folds.{Any-from_list_any, list_any-from_Any}
use Rattle.net_graph.specs.declared.edge.Edge.{Edge}
use Rattle.hanan_grid.specs.ContainsLaws.{Contains-first, Contains-rest, Contains-cases, Contains-none}
use Rattle.obstacles_in.specs.Obstacles.{ObstaclesValue}
use Rattle.obstacle_grid.specs.Blocked.{is_blocked_by}
use Rattle.obstacle_grid.specs.Crossing.{RunsStraight, CrossesNone, NoEdgeCrosses, OthersAreLeft}
use Rattle.obstacle_grid.specs.Grid.{obstacle_grid_of, point_of, is_blocked, is_allowed}
use Rattle.obstacle_grid.proofs.lemmas.Blocking.{blocking_is_crossing_lem}
use Rattle.obstacle_grid.proofs.lemmas.Edges.{edges_run_straight_lem}

-- ---- one edge

-- an edge that no box blocks crosses none
allowed_crosses_none : (o : ObstaclesValue) (e : Edge) → RunsStraight o e → is_allowed o e ≡ true → CrossesNone o e
allowed_crosses_none o e straight allowed b (k, inside, is) crosses =
    let by = (blocking_is_crossing_lem b (point_of o e.a) (point_of o e.b) straight).1 crosses in
    let blocked : is_blocked o e ≡ true =
    list_any-from_Any (λ b. is_blocked_by b (point_of o e.a) (point_of o e.b)) o.boxes (k, b, inside, is, by) in
    false≢true (sym (ap not blocked) ∙ allowed)

-- an edge that crosses none is blocked by none
crosses_none_allowed : (o : ObstaclesValue) (e : Edge) → RunsStraight o e → CrossesNone o e → is_allowed o e ≡ true
crosses_none_allowed o e straight none = elim (cases_Bool (is_blocked o e)) [
  | inl blocked ↦
      let (k, b, inside, is, by) =
      Any-from_list_any (λ b. is_blocked_by b (point_of o e.a) (point_of o e.b)) o.boxes blocked in
      absurd (none b (k, inside, is) ((blocking_is_crossing_lem b (point_of o e.a) (point_of o e.b) straight).0 by))
  | inr free ↦ ap not free
]

-- ---- all edges

-- a filter keeps what passes
Contains-filter : {X : Type 0} (p : X → Bool) (xs : List X) (x : X) → p x ≡ true → Contains xs x
    → Contains (filter p xs) x
Contains-filter p [] x passes member = Contains-none x member
Contains-filter p (y ∷ xs) x passes member = elim (Contains-cases y x xs member) [
  | inl is ↦ rw (ap p is ∙ passes) (subst (λ z. Contains (y ∷ filter p xs) z) is (Contains-first y (filter p xs)))
  | inr later ↦ elim (cases_Bool (p y)) [
    | inl kept ↦ rw kept (Contains-rest y x (filter p xs) (Contains-filter p xs x passes later))
    | inr dropped ↦ rw dropped (Contains-filter p xs x passes later)
  ]
]

-- no edge of the graph crosses a box
pub no_edge_crosses_lem : NoEdgeCrosses
no_edge_crosses_lem o =
    let edges = (obstacle_grid_of o).edges in
    let straight = All-filter (is_allowed o) (RunsStraight o) edges (edges_run_straight_lem o) in
    let allowed = filter_passes (is_allowed o) edges in
    λ i d inside. allowed_crosses_none o (get_or (filter (is_allowed o) edges) i d) (straight i d inside)
    (allowed i d inside)

-- and each other edge of the grid is one of the graph's
pub others_are_left_lem : OthersAreLeft
others_are_left_lem o e member none =
    let straight = All-contains (RunsStraight o) (obstacle_grid_of o).edges e (edges_run_straight_lem o) member in
    Contains-filter (is_allowed o) (obstacle_grid_of o).edges e (crosses_none_allowed o e straight none) member
