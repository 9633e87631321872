-- The lines of an STP file (STP Format 1.0 of SteinLib) as they are written. Nodes count from 1.
use Rattle.std.specs.Prelude.{ℕ, List, [], ◌∷◌, ◌++◌, codes}
use Rattle.std.specs.Fmt.{decimal, signed_decimal}
use Rattle.points_in.specs.declared.point.Point.{Point}

-- the lines before the graph: the magic number, and a comment
abbrev pub head_text : List ℕ
head_text = codes "33D32945 STP File, STP Format Version 1.0\n\nSECTION Comment\nName \"rst\"\nEND\n\n"

-- the end of a section, with an empty line
abbrev pub section_end : List ℕ
section_end = codes "END\n\n"

-- the lines that count the nodes and the edges
abbrev pub graph_head : ℕ → ℕ → List ℕ
graph_head nodes edges = codes "SECTION Graph\nNodes " ++ decimal nodes ++ codes "\nEdges " ++ decimal edges ++ 10 ∷ []

-- the line of an edge: its ends and its length
abbrev pub edge_line : ℕ → ℕ → ℕ → List ℕ
edge_line i j length = codes "E " ++ decimal i ++ 32 ∷ decimal j ++ 32 ∷ decimal length ++ 10 ∷ []

-- the lines that count the terminals
abbrev pub terminals_head : ℕ → List ℕ
terminals_head count = codes "SECTION Terminals\nTerminals " ++ decimal count ++ 10 ∷ []

-- the line of a terminal
abbrev pub terminal_line : ℕ → List ℕ
terminal_line node = codes "T " ++ decimal node ++ 10 ∷ []

-- the first line of the section of the points
abbrev pub coordinates_head : List ℕ
coordinates_head = codes "SECTION Coordinates\n"

-- the line of a node and its point
abbrev pub located_line : ℕ → Point → List ℕ
located_line node p = codes "DD " ++ decimal node ++ 32 ∷ signed_decimal p.x ++ 32 ∷ signed_decimal p.y ++ 10 ∷ []

-- the last line
abbrev pub end_text : List ℕ
end_text = codes "EOF\n"
