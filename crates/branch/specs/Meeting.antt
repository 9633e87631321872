-- How many edges of a set end at a vertex.
use Rattle.std.specs.Prelude.{ℕ, ◌+◌, ◌==◌, ◌||◌, Bool, true, false, List, [], ◌∷◌, if◌then◌else◌}
use Rattle.net_graph.specs.declared.edge.Edge.{Edge}

-- one where the vertex is an end of the edge
abbrev pub end_count : ℕ → Edge → ℕ
end_count v e = if (e.a == v) || (e.b == v) then 1 else 0

-- how many edges of the set have this end
abbrev pub edges_at : List Edge → List Bool → ℕ → ℕ
edges_at [] set v = 0
edges_at (e ∷ es) [] v = 0
edges_at (e ∷ es) (true ∷ set) v = end_count v e + edges_at es set v
edges_at (e ∷ es) (false ∷ set) v = edges_at es set v
