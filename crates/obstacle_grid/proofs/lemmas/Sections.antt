-- The sections of an STP file that was written, as they are read.
use Rattle.std.specs.Prelude.{ℕ, ◌≡◌, ◌<◌, ◌≤◌, ◌^◌, ◌==◌, ◌&&◌, true, false, nat_lt, if◌then◌else◌, List, [], ◌∷◌}
use Rattle.std.specs.Prelude.{◌++◌, length, slice_index, All, codes, Some, None, is_some, Result, Ok, Err}
use Rattle.std.specs.Fmt.{decimal}
use Rattle.std.specs.List.{list_all}
use Rattle.std.proofs.Common.{arith, refl, ap, ◌∙◌, append_assoc}
use Rattle.std.proofs.lemmas.Bool.{le-leb, ne_eqb}
use Rattle.std.proofs.lemmas.Bool.Decides.{Decides-and, Decides-ltb}
use Rattle.std.proofs.lemmas.List.Elements.{All-nil, All-append, All-cons}
use Rattle.stp_text.specs.Lines.{section_end, graph_head, edge_line, terminals_head, terminal_line}
use Rattle.stp_format.specs.declared.edge.StpEdge.{StpEdge}
use Rattle.stp_format.specs.declared.fault.StpFault.{StpFault}
use Rattle.stp_format.specs.declared.fault.StpFault.TheVariants.{BadLine, NodeOutOfRange}
use Rattle.stp_format.specs.Lines.{words_of}
use Rattle.stp_format.specs.Numbers.{number_in, count_of, weight_of}
use Rattle.stp_format.specs.Reading.{next_line}
use Rattle.stp_format.specs.Sections.{◌>>=◌, Sections, Reading, outside, in_graph, in_terminals, unsized, sized}
use Rattle.stp_format.specs.Sections.{listing, uncounted, naming}
use Rattle.stp_format.specs.Sections as reading
use Rattle.stp_format.specs.Value.{StpGraph, is_node}
use Rattle.obstacle_grid.proofs.lemmas.Words.{IsPlain, IsOneLine, words_of-before, words_of-last, decimal_plain}
use Rattle.obstacle_grid.proofs.lemmas.Words.{line_of_word, number_in-decimal}
use Rattle.obstacle_grid.proofs.lemmas.Leads.{LeadsOn, leads_both, leads_same, leads_empty, leads_line}

-- ---- lines of a keyword and numbers

-- a keyword, a blank and a number make a line of two words
word_and_number : (word : List ℕ) (n : ℕ) → IsPlain word → n < 2 ^ 64
    → words_of (word ++ 32 ∷ decimal n) ≡ word ∷ decimal n ∷ []
word_and_number word n plain fits =
    words_of-before word (decimal n) plain ∙ ap (λ ws. word ∷ ws) (words_of-last (decimal n) (decimal_plain n fits))

-- blanks between words stand on their line
line_before : (word rest : List ℕ) → IsPlain word → IsOneLine rest → IsOneLine (word ++ 32 ∷ rest)
line_before word rest plain is =
    All-append (λ b. 13 < b) word (32 ∷ rest) (line_of_word word plain)
    (All-cons (λ b. 13 < b) 32 rest (omega arith) is)

-- such a line leads on where its number does
leads_number : (r r' : Reading) (keyword : List ℕ) (n : ℕ) → IsPlain keyword → n < 2 ^ 64
    → (slice_index keyword 0 == 35) ≡ false
    → ((line : ℕ) → next_line r (record { number = line; keyword = keyword; operands = decimal n ∷ [] }) ≡ Ok r')
    → LeadsOn r ((keyword ++ 32 ∷ decimal n) ++ 10 ∷ []) r'
leads_number r r' keyword n plain fits other next =
    leads_line r r' (keyword ++ 32 ∷ decimal n) keyword (decimal n ∷ [])
    (line_before keyword (decimal n) plain (line_of_word (decimal n) (decimal_plain n fits)))
    (word_and_number keyword n plain fits) other next

-- ---- lines that are known byte by byte

-- the bytes of a line, told by a test
pub line_by_test : (line : List ℕ) → list_all (λ b. nat_lt 13 b) line ≡ true → IsOneLine line
line_by_test [] told = All-nil (λ b. 13 < b)
line_by_test (b ∷ line) told =
    let (first, rest) = (Decides-and _ _ (Decides-ltb 13 b) (λ h. h, λ h. h)).0 told in
    All-cons (λ b. 13 < b) b line first (line_by_test line rest)

bytes_by_test : (word : List ℕ) → list_all (λ b. nat_lt 32 b) word ≡ true → All (λ b. 32 < b) word
bytes_by_test [] told = All-nil (λ b. 32 < b)
bytes_by_test (b ∷ word) told =
    let (first, rest) = (Decides-and _ _ (Decides-ltb 32 b) (λ h. h, λ h. h)).0 told in
    All-cons (λ b. 32 < b) b word first (bytes_by_test word rest)

plain_by_test : (word : List ℕ) → nat_lt 0 (length word) ≡ true → list_all (λ b. nat_lt 32 b) word ≡ true → IsPlain word
plain_by_test word some told = record { some = (Decides-ltb 0 (length word)).0 some; above = bytes_by_test word told }

-- the end of a section, and the empty line behind it
pub leads_section_end : (r r' : Reading)
    → ((n : ℕ) → next_line r (record { number = n; keyword = codes "END"; operands = [] }) ≡ Ok r')
    → LeadsOn r section_end r'
leads_section_end r r' next =
    leads_both r r' r' (codes "END" ++ 10 ∷ []) (10 ∷ [])
    (leads_line r r' (codes "END") (codes "END") [] (line_by_test (codes "END") refl) refl refl next) (leads_empty r')

-- ---- the numbers of a line

-- a number of 32 bits
counted_is : (line n : ℕ) → n < 2 ^ 32 → reading.counted line (decimal n ∷ []) ≡ Ok n
counted_is line n fits = number_in-decimal (2 ^ 32) line n fits (omega (arith, fits))

-- the nodes, of which there is one at least
nodes_are : (line nodes : ℕ) → 1 ≤ nodes → nodes < 2 ^ 32 → reading.nodes_line line (decimal nodes ∷ []) ≡ Ok nodes
nodes_are line nodes some fits = grind (arith, nodes == 0, ne_eqb, counted_is line nodes fits)

-- a number is a node's
is_node_told : (nodes i : ℕ) → 1 ≤ i → i ≤ nodes → is_node nodes i ≡ true
is_node_told nodes i low high = rw (le-leb 1 i low, le-leb i nodes high) refl

-- an edge of a file
abbrev pub stp_edge : ℕ → ℕ → ℕ → StpEdge
stp_edge i j l = record { i = i; j = j; length = l }

-- its ends and its length
edge_is : (line nodes : ℕ) (i j l : ℕ) → nodes < 2 ^ 32 → 1 ≤ i → i ≤ nodes → 1 ≤ j → j ≤ nodes → l < 2 ^ 64
    → reading.edge_line line nodes (decimal i ∷ decimal j ∷ decimal l ∷ [])
    ≡ Ok (stp_edge i j l)
edge_is line nodes i j l few i_low i_high j_low j_high fits =
    let first = number_in-decimal (2 ^ 32) line i (omega (arith, i_high, few)) (omega (arith, i_high, few)) in
    let second = number_in-decimal (2 ^ 32) line j (omega (arith, j_high, few)) (omega (arith, j_high, few)) in
    let third = number_in-decimal (2 ^ 64) line l fits fits in
    edge_by line nodes (number_in count_of line (decimal i)) (number_in count_of line (decimal j))
    (number_in weight_of line (decimal l)) i j l first second third (is_node_told nodes i i_low i_high)
    (is_node_told nodes j j_low j_high)
  where
    edge_by : (line nodes : ℕ) (a b c : Result ℕ StpFault) (i j l : ℕ) → a ≡ Ok i → b ≡ Ok j → c ≡ Ok l
        → is_node nodes i ≡ true → is_node nodes j ≡ true
        → (a >>= (λ i. b >>= (λ j. c >>= (λ l. if is_node nodes i && is_node nodes j
        then Ok (stp_edge i j l) else Err (NodeOutOfRange line)))))
        ≡ Ok (stp_edge i j l)
    edge_by line nodes a b c i j l first second third in_i in_j = rw (first, second, third, in_i, in_j) refl

-- the node of a terminal
terminal_is : (line nodes i : ℕ) → nodes < 2 ^ 32 → 1 ≤ i → i ≤ nodes
    → reading.terminal_line line nodes (decimal i ∷ []) ≡ Ok i
terminal_is line nodes i few low high = grind (arith, counted_is, is_node_told nodes i low high)

-- ---- the line of an edge and of a terminal

-- three numbers behind a keyword
words_of_edge : (i j l : ℕ) → i < 2 ^ 64 → j < 2 ^ 64 → l < 2 ^ 64
    → words_of (codes "E" ++ 32 ∷ (decimal i ++ 32 ∷ (decimal j ++ 32 ∷ decimal l)))
    ≡ codes "E" ∷ decimal i ∷ decimal j ∷ decimal l ∷ []
words_of_edge i j l first second third =
    grind (
      arith,
      words_of-before (codes "E") (decimal i ++ 32 ∷ (decimal j ++ 32 ∷ decimal l)) (plain_by_test (codes "E") refl refl),
      words_of-before (decimal i) (decimal j ++ 32 ∷ decimal l) (decimal_plain i first),
      words_of-before (decimal j) (decimal l) (decimal_plain j second),
      words_of-last (decimal l) (decimal_plain l third),
    )

-- which stand on one line
edge_on_line : (i j l : ℕ) → i < 2 ^ 64 → j < 2 ^ 64 → l < 2 ^ 64
    → IsOneLine (codes "E" ++ 32 ∷ (decimal i ++ 32 ∷ (decimal j ++ 32 ∷ decimal l)))
edge_on_line i j l first second third =
    line_before (codes "E") (decimal i ++ 32 ∷ (decimal j ++ 32 ∷ decimal l)) (plain_by_test (codes "E") refl refl)
    (line_before (decimal i) (decimal j ++ 32 ∷ decimal l) (decimal_plain i first)
    (line_before (decimal j) (decimal l) (decimal_plain j second) (line_of_word (decimal l) (decimal_plain l third))))

-- the bytes of that line
edge_bytes : (i j l : ℕ)
    → (codes "E" ++ 32 ∷ (decimal i ++ 32 ∷ (decimal j ++ 32 ∷ decimal l))) ++ 10 ∷ [] ≡ edge_line i j l
edge_bytes i j l = simp append_assoc

-- the line of an edge adds that edge
pub leads_edge : (s : Sections) (nodes due : ℕ) (before : List StpEdge) (i j l : ℕ) → nodes < 2 ^ 32 → 1 ≤ i → i ≤ nodes
    → 1 ≤ j → j ≤ nodes → l < 2 ^ 64
    → LeadsOn (in_graph s (listing nodes due before)) (edge_line i j l)
    (in_graph s (listing nodes due (before ++ stp_edge i j l ∷ [])))
leads_edge s nodes due before i j l few i_low i_high j_low j_high fits =
    let r = in_graph s (listing nodes due before) in
    let r' = in_graph s (listing nodes due (before ++ stp_edge i j l ∷ [])) in
    let first : i < 2 ^ 64 = omega (arith, few, i_high) in
    let second : j < 2 ^ 64 = omega (arith, few, j_high) in
    leads_same r r' _ (edge_line i j l) (edge_bytes i j l)
    (leads_line r r' (codes "E" ++ 32 ∷ (decimal i ++ 32 ∷ (decimal j ++ 32 ∷ decimal l))) (codes "E")
    (decimal i ∷ decimal j ∷ decimal l ∷ []) (edge_on_line i j l first second fits)
    (words_of_edge i j l first second fits) refl
    (λ line. ap (λ r. r >>= (λ e. Ok (in_graph s (listing nodes due (before ++ e ∷ [])))))
    (edge_is line nodes i j l few i_low i_high j_low j_high fits)))

-- the bytes of the line of a terminal
terminal_bytes : (i : ℕ) → (codes "T" ++ 32 ∷ decimal i) ++ 10 ∷ [] ≡ terminal_line i
terminal_bytes i = refl

-- which adds that terminal
pub leads_terminal : (s : Sections) (nodes due : ℕ) (before : List ℕ) (i : ℕ) → nodes < 2 ^ 32 → 1 ≤ i → i ≤ nodes
    → LeadsOn (in_terminals s nodes (naming due before)) (terminal_line i)
    (in_terminals s nodes (naming due (before ++ i ∷ [])))
leads_terminal s nodes due before i few low high =
    let r = in_terminals s nodes (naming due before) in
    let r' = in_terminals s nodes (naming due (before ++ i ∷ [])) in
    leads_same r r' _ (terminal_line i) (terminal_bytes i)
    (leads_number r r' (codes "T") i (plain_by_test (codes "T") refl refl) (omega (arith, few, high)) refl
    (λ line. ap (λ r. r >>= (λ node. Ok (in_terminals s nodes (naming due (before ++ node ∷ [])))))
    (terminal_is line nodes i few low high)))

-- ---- the heads of the sections

-- the bytes of the head of the graph
graph_head_bytes : (nodes edges : ℕ) → (codes "SECTION Graph" ++ 10 ∷ [])
    ++ (((codes "Nodes" ++ 32 ∷ decimal nodes) ++ 10 ∷ []) ++ ((codes "Edges" ++ 32 ∷ decimal edges) ++ 10 ∷ []))
    ≡ graph_head nodes edges
graph_head_bytes nodes edges =
    grind (
      arith,
      append_assoc (decimal nodes) (10 ∷ []) ((codes "Edges" ++ 32 ∷ decimal edges) ++ 10 ∷ []),
      append_assoc (decimal nodes) (codes "\nEdges " ++ decimal edges) (10 ∷ []),
      append_assoc (decimal nodes) (codes "\nEdges ") (decimal edges),
    )

-- it begins the list of the edges
pub leads_graph_head : (s : Sections) (nodes due : ℕ) → s.graph ≡ None → 1 ≤ nodes → nodes < 2 ^ 32 → due < 2 ^ 32
    → LeadsOn (outside s) (graph_head nodes due) (in_graph s (listing nodes due []))
leads_graph_head s nodes due none some fits few =
    let begun = in_graph s unsized in
    let counted = in_graph s (sized nodes) in
    let ready = in_graph s (listing nodes due []) in
    let title = leads_line (outside s) begun (codes "SECTION Graph") (codes "SECTION") (codes "Graph" ∷ [])
    (line_by_test (codes "SECTION Graph") refl) refl refl
    (λ n. ap (λ graph. if is_some graph then Err (BadLine n) else Ok begun) none) in
    let first = leads_number begun counted (codes "Nodes") nodes (plain_by_test (codes "Nodes") refl refl)
    (omega (arith, fits)) refl
    (λ line. ap (λ r. r >>= (λ nodes. Ok (in_graph s (sized nodes)))) (nodes_are line nodes some fits)) in
    let second = leads_number counted ready (codes "Edges") due (plain_by_test (codes "Edges") refl refl)
    (omega (arith, few)) refl
    (λ line. ap (λ r. r >>= (λ due. Ok (in_graph s (listing nodes due [])))) (counted_is line due few)) in
    leads_same (outside s) ready _ (graph_head nodes due) (graph_head_bytes nodes due)
    (leads_both (outside s) begun ready (codes "SECTION Graph" ++ 10 ∷ [])
    (((codes "Nodes" ++ 32 ∷ decimal nodes) ++ 10 ∷ []) ++ ((codes "Edges" ++ 32 ∷ decimal due) ++ 10 ∷ [])) title
    (leads_both begun counted ready ((codes "Nodes" ++ 32 ∷ decimal nodes) ++ 10 ∷ [])
    ((codes "Edges" ++ 32 ∷ decimal due) ++ 10 ∷ []) first second))

-- the head of the terminals begins their list
pub leads_terminals_head : (s : Sections) (graph : StpGraph) (due : ℕ) → s.graph ≡ Some graph → s.terminals ≡ None
    → due < 2 ^ 32 → LeadsOn (outside s) (terminals_head due) (in_terminals s graph.nodes (naming due []))
leads_terminals_head s graph due is none few =
    let begun = in_terminals s graph.nodes uncounted in
    let ready = in_terminals s graph.nodes (naming due []) in
    let title = leads_line (outside s) begun (codes "SECTION Terminals") (codes "SECTION") (codes "Terminals" ∷ [])
    (line_by_test (codes "SECTION Terminals") refl) refl refl
    (λ n. ap (λ graph. reading.behind_graph n graph (is_some s.terminals)
    >>= (λ nodes. Ok (in_terminals s nodes uncounted))) is
    ∙ ap (λ terminals. (if is_some terminals then Err (BadLine n) else Ok graph.nodes)
    >>= (λ nodes. Ok (in_terminals s nodes uncounted))) none) in
    let count = leads_number begun ready (codes "Terminals") due (plain_by_test (codes "Terminals") refl refl)
    (omega (arith, few)) refl
    (λ line. ap (λ r. r >>= (λ due. Ok (in_terminals s graph.nodes (naming due [])))) (counted_is line due few)) in
    leads_both (outside s) begun ready (codes "SECTION Terminals" ++ 10 ∷ [])
    ((codes "Terminals" ++ 32 ∷ decimal due) ++ 10 ∷ []) title count
