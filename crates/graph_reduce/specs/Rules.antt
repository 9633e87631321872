-- The rules of reduction (the tests of degree and of parallel edges; after Beasley 1984, and Duin and Volgenant 1989).
use Rattle.std.specs.Prelude.{ℕ, ◌≡◌, ◌⊎◌, ◌+◌, ◌==◌, ◌<◌, nat_lt, List, false, map, replicate, length, slice_set, Some, None, if◌then◌else◌}
use Rattle.std.specs.List.{list_any}
use Rattle.net_graph.specs.Network.{HasEnds}
use Rattle.graph_reduce.specs.State.{Bundle, State, HasEdge, HasNode, IsTerminal, EndsIn, HasOneEdge, union}
use Rattle.net_graph.specs.Distinct.{without}

-- the state without the edge at a place
abbrev pub without_edge : State → ℕ → State
without_edge s place = record s { edges = slice_set s.edges place None }

-- the state without any edge
abbrev pub without_edges : State → State
without_edges s = record s { edges = replicate (length s.edges) None }

-- the state without a node
abbrev pub without_node : State → ℕ → State
without_node s v = record s { nodes = slice_set s.nodes v false }

-- two edges as one between u and w: it has both lengths, and stands for what both stand for
abbrev pub joined : Bundle → Bundle → ℕ → ℕ → Bundle
joined x y u w = record {
  edge = record { a = u; b = w; length = x.edge.length + y.edge.length };
  originals = union x.originals y.originals;
}

-- another node in a terminal's place, or, where that is a terminal already, the list without the terminal
abbrev pub moved : List ℕ → ℕ → ℕ → List ℕ
moved terminals from to =
    if list_any (λ t. t == to) terminals then without from terminals
    else map (λ t. if t == from then to else t) terminals

-- There is one terminal, and an edge: all edges are dropped.
pub record DropsAllEdges (old new : State) : Type 0 where
  pub one : length old.terminals ≡ 1
  pub some : (place : ℕ) × (x : Bundle) × HasEdge old place x
  pub becomes : new ≡ without_edges old

-- The edge at the place is a loop: it is dropped.
pub record DropsLoop (place : ℕ) (old new : State) : Type 0 where
  pub loop : Bundle
  pub at : HasEdge old place loop
  pub is_loop : loop.edge.a ≡ loop.edge.b
  pub becomes : new ≡ without_edge old place

-- these places hold edges with the same two ends
pub record AreParallel (s : State) (first second : ℕ) (x y : Bundle) : Type 0 where
  pub order : first < second
  pub first_at : HasEdge s first x
  pub second_at : HasEdge s second y
  pub same_ends : HasEnds y.edge x.edge.a x.edge.b

-- The edge at the place and a later one, the next of that kind, have the same two ends: the longer is dropped, and
-- where they are of one length, the later.
pub record DropsParallel (place : ℕ) (old new : State) : Type 0 where
  pub later : ℕ
  pub x : Bundle
  pub y : Bundle
  pub parallel : AreParallel old place later x y
  pub next : (between : ℕ) (z : Bundle) → between < later → ¬ AreParallel old place between x z
  pub becomes : new ≡ without_edge old (if nat_lt y.edge.length x.edge.length then place else later)

-- A node is no terminal and has no edge: it is dropped.
pub record DropsLoneNode (v : ℕ) (old new : State) : Type 0 where
  pub node : HasNode old v
  pub free : ¬ IsTerminal old v
  pub none : (place : ℕ) → ¬ EndsIn old v place
  pub becomes : new ≡ without_node old v

-- A node is no terminal and has one edge: both are dropped.
pub record DropsLeaf (v : ℕ) (old new : State) : Type 0 where
  pub node : HasNode old v
  pub free : ¬ IsTerminal old v
  pub place : ℕ
  pub x : Bundle
  pub other : ℕ
  pub edge : HasOneEdge old v place x other
  pub becomes : new ≡ without_edge (without_node old v) place

-- A node is no terminal and has two edges: both become one between their other ends, in the earlier place, and the node
-- is dropped.
pub record JoinsEdges (v : ℕ) (old new : State) : Type 0 where
  pub node : HasNode old v
  pub free : ¬ IsTerminal old v
  pub earlier : ℕ
  pub later : ℕ
  pub order : earlier < later
  pub x : Bundle
  pub y : Bundle
  pub u : ℕ
  pub w : ℕ
  pub earlier_at : HasEdge old earlier x
  pub later_at : HasEdge old later y
  pub earlier_ends : HasEnds x.edge v u
  pub later_ends : HasEnds y.edge v w
  pub only : (place : ℕ) → EndsIn old v place → (place ≡ earlier) ⊎ (place ≡ later)
  pub becomes : new ≡ record old {
    nodes = slice_set old.nodes v false;
    edges = slice_set (slice_set old.edges earlier (Some (joined x y u w))) later None;
  }

-- A terminal has one edge: what that stands for is forced and its length joins the offset, the terminal and the edge
-- are dropped, and the edge's other end takes the terminal's place or, where it is a terminal already, the place is
-- removed.
pub record ForcesEdge (v : ℕ) (old new : State) : Type 0 where
  pub terminal : IsTerminal old v
  pub place : ℕ
  pub x : Bundle
  pub other : ℕ
  pub edge : HasOneEdge old v place x other
  pub becomes : new ≡ record {
    nodes = slice_set old.nodes v false;
    edges = slice_set old.edges place None;
    terminals = moved old.terminals v other;
    forced = union old.forced x.originals;
    offset = old.offset + x.edge.length;
  }
