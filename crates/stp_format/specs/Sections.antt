-- The sections of a file as they are read: what a line of each section tells, or why it is wrong.
use Rattle.std.specs.Prelude.{ℕ, ◌==◌, ◌&&◌, ◌++◌, Bool, if◌then◌else◌, List, [], ◌∷◌, length, codes, Option, Some, None, is_some, Result, Ok, Err}
use Rattle.std.specs.Ordering.{nat_cmp}
use Rattle.std.specs.BTreeMap.{insert_entry}
use Rattle.points_in.specs.declared.point.Point.{Point}
use Rattle.stp_format.specs.declared.edge.StpEdge.{StpEdge}
use Rattle.stp_format.specs.declared.fault.StpFault.{StpFault}
use Rattle.stp_format.specs.declared.fault.StpFault.TheVariants.{BadLine, LeftOut, NodeOutOfRange, WrongCount, MissingSection}
use Rattle.stp_format.specs.declared.fault.StpSection.TheVariants as section
use Rattle.stp_format.specs.Lines.{ToldLine, is_keyword}
use Rattle.stp_format.specs.Numbers.{number_in, count_of, weight_of, coordinate_of, or_fault}
use Rattle.stp_format.specs.Value.{StpGraph, StpValue, is_node, point_of_node}

-- A step that goes on where the one before found no fault.
infixl 10 ◌>>=◌
abbrev pub ◌>>=◌ : {X Y : Type 0} → Result X StpFault → (X → Result Y StpFault) → Result Y StpFault
(Ok x) >>= next = next x
(Err f) >>= next = Err f

-- the words behind a keyword, where there are just so many
abbrev pub no_word : ℕ → List (List ℕ) → Result (Unit {0}) StpFault
no_word n [] = Ok tt
no_word n (word ∷ words) = Err (BadLine n)

abbrev pub one_word : ℕ → List (List ℕ) → Result (List ℕ) StpFault
one_word n (word ∷ []) = Ok word
one_word n _ = Err (BadLine n)

abbrev pub three_words : ℕ → List (List ℕ) → Result (List ℕ × List ℕ × List ℕ) StpFault
three_words n (a ∷ b ∷ c ∷ []) = Ok (a, b, c)
three_words n _ = Err (BadLine n)

-- The sections that were read whole.
pub record Sections : Type 0 where
  pub graph : Option StpGraph
  pub terminals : Option (List ℕ)
  pub coordinates : Option (List (ℕ × Point))

-- none was read
abbrev pub no_sections : Sections
no_sections = record { graph = None; terminals = None; coordinates = None }

-- What was read of a Graph section: nothing, the count of the nodes, or that of the edges too and some edges.
pub data GraphSoFar : Type 0 where
  unsized : GraphSoFar
  sized : (nodes : ℕ) → GraphSoFar
  listing : (nodes due : ℕ) (edges : List StpEdge) → GraphSoFar

-- What was read of a Terminals section: nothing, or the count and some terminals.
pub data TerminalsSoFar : Type 0 where
  uncounted : TerminalsSoFar
  naming : (due : ℕ) (terminals : List ℕ) → TerminalsSoFar

-- Where the next line stands: outside of the sections, in one of them, or behind the end of the file.
pub data Reading : Type 0 where
  outside : Sections → Reading
  in_comment : Sections → Reading
  in_graph : Sections → GraphSoFar → Reading
  in_terminals : Sections → (nodes : ℕ) → TerminalsSoFar → Reading
  in_coordinates : Sections → (nodes : ℕ) → List (ℕ × Point) → Reading
  ended : StpValue → Reading

-- a line that names one number of 32 bits
abbrev pub counted : ℕ → List (List ℕ) → Result ℕ StpFault
counted n operands = do
  word ← one_word n operands
  number_in count_of n word

-- the line that counts the nodes, of which there is one at least
abbrev pub nodes_line : ℕ → List (List ℕ) → Result ℕ StpFault
nodes_line n operands = do
  nodes ← counted n operands
  (if nodes == 0 then Err (BadLine n) else Ok nodes)

-- the line of an edge: its two ends and its length
abbrev pub edge_line : ℕ → ℕ → List (List ℕ) → Result StpEdge StpFault
edge_line n nodes operands = do
  words ← three_words n operands
  i ← number_in count_of n words.0
  j ← number_in count_of n words.1
  length ← number_in weight_of n words.2
  (if is_node nodes i && is_node nodes j
      then Ok (record { i = i; j = j; length = length })
      else Err (NodeOutOfRange n))

-- the line of a terminal
abbrev pub terminal_line : ℕ → ℕ → List (List ℕ) → Result ℕ StpFault
terminal_line n nodes operands = do
  node ← counted n operands
  (if is_node nodes node then Ok node else Err (NodeOutOfRange n))

-- the line of a node's point, and the points with it
abbrev pub point_line : ℕ → ℕ → List (ℕ × Point) → List (List ℕ) → Result (List (ℕ × Point)) StpFault
point_line n nodes points operands = do
  words ← three_words n operands
  node ← number_in count_of n words.0
  x ← number_in coordinate_of n words.1
  y ← number_in coordinate_of n words.2
  (if is_node nodes node
      then (if is_some (point_of_node points node)
      then Err (BadLine n)
      else Ok (insert_entry nat_cmp points node (record { x = x; y = y })))
      else Err (NodeOutOfRange n))

-- the line that ends a section, whose lines were counted
abbrev pub end_line : ℕ → List (List ℕ) → StpFault → Bool → Result (Unit {0}) StpFault
end_line n operands miscounted right = do
  nothing ← no_word n operands
  (if right then Ok tt else Err miscounted)

-- a line of a Graph section, but those that are left out
abbrev pub graph_line : Sections → GraphSoFar → ToldLine → Result Reading StpFault
graph_line s unsized line =
    if is_keyword (codes "Nodes") line.keyword
    then nodes_line line.number line.operands >>= (λ nodes. Ok (in_graph s (sized nodes)))
    else Err (BadLine line.number)
graph_line s (sized nodes) line =
    if is_keyword (codes "Edges") line.keyword
    then counted line.number line.operands >>= (λ due. Ok (in_graph s (listing nodes due [])))
    else Err (BadLine line.number)
graph_line s (listing nodes due edges) line =
    if is_keyword (codes "E") line.keyword
    then edge_line line.number nodes line.operands >>= (λ e. Ok (in_graph s (listing nodes due (edges ++ e ∷ []))))
    else (if is_keyword (codes "END") line.keyword
    then end_line line.number line.operands (WrongCount section.Graph) (length edges == due)
    >>= (λ done. Ok (outside (record s { graph = Some (record { nodes = nodes; edges = edges }) })))
    else Err (BadLine line.number))

-- a line of a Terminals section, but those that are left out
abbrev pub terminals_line : Sections → ℕ → TerminalsSoFar → ToldLine → Result Reading StpFault
terminals_line s nodes uncounted line =
    if is_keyword (codes "Terminals") line.keyword
    then counted line.number line.operands >>= (λ due. Ok (in_terminals s nodes (naming due [])))
    else Err (BadLine line.number)
terminals_line s nodes (naming due terminals) line =
    if is_keyword (codes "T") line.keyword
    then terminal_line line.number nodes line.operands
    >>= (λ node. Ok (in_terminals s nodes (naming due (terminals ++ node ∷ []))))
    else (if is_keyword (codes "END") line.keyword
    then end_line line.number line.operands (WrongCount section.Terminals) (length terminals == due)
    >>= (λ done. Ok (outside (record s { terminals = Some terminals })))
    else Err (BadLine line.number))

-- a line of a Coordinates section, but those that are left out
abbrev pub coordinates_line : Sections → ℕ → List (ℕ × Point) → ToldLine → Result Reading StpFault
coordinates_line s nodes points line =
    if is_keyword (codes "DD") line.keyword
    then point_line line.number nodes points line.operands >>= (λ more. Ok (in_coordinates s nodes more))
    else (if is_keyword (codes "END") line.keyword
    then no_word line.number line.operands >>= (λ done. Ok (outside (record s { coordinates = Some points })))
    else Err (BadLine line.number))

-- How many nodes there are for a section that stands behind a Graph section, and only once.
abbrev pub behind_graph : ℕ → Option StpGraph → Bool → Result ℕ StpFault
behind_graph n None again = Err (MissingSection section.Graph)
behind_graph n (Some graph) again = if again then Err (BadLine n) else Ok graph.nodes

-- the line that begins the section of a name
abbrev pub section_line : Sections → ℕ → List ℕ → Result Reading StpFault
section_line s n name =
    if is_keyword (codes "Comment") name then Ok (in_comment s)
    else (if is_keyword (codes "Graph") name
    then (if is_some s.graph then Err (BadLine n) else Ok (in_graph s unsized))
    else (if is_keyword (codes "Terminals") name
    then behind_graph n s.graph (is_some s.terminals) >>= (λ nodes. Ok (in_terminals s nodes uncounted))
    else (if is_keyword (codes "Coordinates") name
    then behind_graph n s.graph (is_some s.coordinates) >>= (λ nodes. Ok (in_coordinates s nodes []))
    else Err (LeftOut n))))

-- the file of the sections, where none is missing
abbrev pub file_of : Sections → Result StpValue StpFault
file_of s = do
  graph ← or_fault (MissingSection section.Graph) s.graph
  terminals ← or_fault (MissingSection section.Terminals) s.terminals
  Ok (record { nodes = graph.nodes; edges = graph.edges; terminals = terminals; coordinates = s.coordinates })

-- a line outside of the sections
abbrev pub outer_line : Sections → ToldLine → Result Reading StpFault
outer_line s line =
    if is_keyword (codes "SECTION") line.keyword
    then one_word line.number line.operands >>= section_line s line.number
    else (if is_keyword (codes "EOF") line.keyword
    then no_word line.number line.operands >>= (λ done. file_of s >>= (λ v. Ok (ended v)))
    else Err (BadLine line.number))
