-- The room in which an answer is checked.
use Rattle.std.specs.Prelude.{ℕ, ◌+◌, ◌*◌, [], length, replicate}
use Rattle.net_graph.specs.declared.state.EdgeState.TheVariants.{Undecided}
use Rattle.net_graph.specs.declared.state.VertexState.TheVariants as vertex
use Rattle.net_graph.specs.Decision.{decided_of}
use Rattle.tree_judge.specs.declared.room.Room.{Room}
use Rattle.tree_judge.specs.ArcLoads.{no_loads}

-- nothing is loaded or decided
abbrev pub nothing_kept : ℕ → ℕ → Room
nothing_kept edges vertices = record {
  loads = no_loads edges;
  way = record {
    decided = decided_of (replicate edges Undecided) (replicate vertices vertex.Undecided);
    path = [];
  };
  search = vertices;
}

-- How many bytes the parts of a room take. A load and a number of a search take 8, a number of a listed edge 4, a state
-- 1 and a split of the way 12. The list has room for all edges, a search has two numbers for each vertex, and the way
-- has room for 255 splits.
abbrev pub bytes_of : Room → ℕ
bytes_of room =
    8 * (length room.loads.there + length room.loads.back) + 4 * length room.loads.there
    + length room.way.decided.edges + length room.way.decided.vertices + 12 * 255 + 8 * (2 * room.search)
