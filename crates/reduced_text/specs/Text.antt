-- The text of a reduction. Its nodes, vertices and edges count from 1.
use Rattle.std.specs.Prelude.{ℕ, ◌+◌, Bool, List, [], ◌∷◌, ◌++◌, codes, flat_map, length, min, max}
use Rattle.std.specs.Fmt.{decimal}
use Rattle.net_graph.specs.declared.edge.Edge.{Edge}
use Rattle.net_graph.specs.Graph.{Graph}
use Rattle.net_graph.specs.Members.{members_of}
use Rattle.graph_reduce.specs.Reduction.{Reduction}

-- a line of a word and how many there are
abbrev pub count_line : List ℕ → ℕ → List ℕ
count_line word count = word ++ decimal count ++ 10 ∷ []

-- the line of a number
abbrev pub number_line : ℕ → List ℕ
number_line n = decimal (n + 1) ++ 10 ∷ []

-- the line of a set, which has a word and how many are in it, and the lines of its members, ascending
abbrev pub set_text : List ℕ → List Bool → List ℕ
set_text word set = count_line word (length (members_of set)) ++ flat_map number_line (members_of set)

-- a number behind others
abbrev pub next_number : ℕ → List ℕ
next_number n = 32 ∷ decimal (n + 1)

-- the line of an edge: its ends, the lower first, its length, and the original edges that it stands for, ascending
abbrev pub left_line : Edge → List Bool → List ℕ
left_line e originals = decimal (min e.a e.b + 1) ++ 32 ∷ decimal (max e.a e.b + 1) ++ 32 ∷ decimal e.length
    ++ flat_map next_number (members_of originals) ++ 10 ∷ []

-- the lines of edges and what they stand for
abbrev pub left_lines : List Edge → List (List Bool) → List ℕ
left_lines [] sets = []
left_lines (e ∷ edges) [] = []
left_lines (e ∷ edges) (set ∷ sets) = left_line e set ++ left_lines edges sets

-- the first lines: the offset, and the forced edges, ascending
abbrev pub forced_text : Reduction → List ℕ
forced_text r = codes "rst reduced 1\n" ++ count_line (codes "offset ") r.offset
    ++ set_text (codes "forced ") r.forced

-- the lines of the nodes: which nodes of the original graph they were
abbrev pub nodes_text : Reduction → List ℕ
nodes_text r = count_line (codes "nodes ") (length r.origins) ++ flat_map number_line r.origins

-- the lines of the edges
abbrev pub edges_text : Reduction → List ℕ
edges_text r = count_line (codes "edges ") (length r.graph.edges) ++ left_lines r.graph.edges r.originals

-- the lines of the terminals, and the last line
abbrev pub end_text : Graph → List ℕ
end_text g = count_line (codes "terminals ") (length g.terminals) ++ flat_map number_line g.terminals ++ codes "end\n"

-- the lines of what is left
abbrev pub left_text : Reduction → List ℕ
left_text r = nodes_text r ++ edges_text r ++ end_text r.graph

-- the whole text
unfoldable pub reduced_text : Reduction → List ℕ
reduced_text r = forced_text r ++ left_text r
