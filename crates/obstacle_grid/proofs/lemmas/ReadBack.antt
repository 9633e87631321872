-- The text of a graph is read back.
use Rattle.std.specs.Prelude.{ℕ, suc, ◌≡◌, ◌+◌, ◌<◌, ◌≤◌, ◌^◌, ◌==◌, min, max, true, not, if◌then◌else◌}
use Rattle.std.specs.Prelude.{List, [], ◌∷◌, ◌++◌, length, map, flat_map, filter, sum_by, count_by, codes, All}
use Rattle.std.specs.Prelude.{Bool, get_or, Some, None, Ok, Err}
use Rattle.std.proofs.Common.{arith, refl, sym, ap, subst, ◌∙◌, append_assoc}
use Rattle.std.proofs.lemmas.Bool.{eq-eqb, ne_eqb}
use Rattle.std.proofs.lemmas.List.{append-nil, length-map}
use Rattle.std.proofs.lemmas.List.Elements.{All-head, All-tail}
use Rattle.std.proofs.lemmas.List.Sums.{sum_by-cons}
use Rattle.stp_text.specs.Lines.{head_text, section_end, graph_head, terminals_head, end_text}
use Rattle.stp_format.specs.declared.edge.StpEdge.{StpEdge}
use Rattle.stp_format.specs.declared.fault.StpFault.TheVariants.{WrongCount}
use Rattle.stp_format.specs.declared.fault.StpSection.TheVariants as section
use Rattle.stp_format.specs.Lines.{lines_of}
use Rattle.stp_format.specs.Reading.{stp_of, value_of_lines, end_of_text}
use Rattle.stp_format.specs.Sections.{◌>>=◌, Sections, no_sections, outside, in_graph, in_terminals}
use Rattle.stp_format.specs.Sections.{ended, listing, naming}
use Rattle.stp_format.specs.Value.{StpGraph, StpValue}
use Rattle.net_graph.specs.declared.edge.Edge.{Edge}
use Rattle.net_graph.specs.Distinct.{distinct_of, without}
use Rattle.net_graph.specs.Graph.{Graph, HasEndsBelow, IsGraph}
use Rattle.graph_solve.specs.Task.{vertex_of, edge_of, graph_of_stp}
use Rattle.obstacle_grid.specs.ReadBack.{turned, with_edges_turned, AreDifferent, GraphsAreReadBack}
use Rattle.obstacle_grid.specs.Text.{edge_text, graph_text, terminal_text, terminals_text, graph_stp_text}
use Rattle.obstacle_grid.proofs.lemmas.Words.{lines_of-line}
use Rattle.obstacle_grid.proofs.lemmas.Leads.{comes, LeadsOn, leads_nothing, leads_both, leads_same}
use Rattle.obstacle_grid.proofs.lemmas.Leads.{leads_empty, leads_line}
use Rattle.obstacle_grid.proofs.lemmas.Sections.{line_by_test, leads_section_end, stp_edge, leads_edge, leads_terminal}
use Rattle.obstacle_grid.proofs.lemmas.Sections.{leads_graph_head, leads_terminals_head}

-- ---- the file that is read

-- an edge between the nodes of its vertices, the lower first
abbrev pub node_edge : Edge → StpEdge
node_edge e = stp_edge (min e.a e.b + 1) (max e.a e.b + 1) e.length

-- the node of a vertex
abbrev pub node_of : ℕ → ℕ
node_of v = v + 1

-- the graph of the file
abbrev pub file_graph : Graph → StpGraph
file_graph g = record { nodes = g.vertices; edges = map node_edge g.edges }

-- and the file
abbrev pub file_of : Graph → StpValue
file_of g = record {
  nodes = g.vertices;
  edges = map node_edge g.edges;
  terminals = map node_of g.terminals;
  coordinates = None;
}

-- ---- lists of lines

-- the lines of edges add these edges
leads_edges : (s : Sections) (nodes due : ℕ) (before : List StpEdge) (edges : List Edge) → nodes < 2 ^ 32
    → All (HasEndsBelow nodes) edges → sum_by (λ e. e.length) edges < 2 ^ 64
    → LeadsOn (in_graph s (listing nodes due before)) (flat_map edge_text edges)
    (in_graph s (listing nodes due (before ++ map node_edge edges)))
leads_edges s nodes due before [] few ends fits =
    subst (λ es. LeadsOn (in_graph s (listing nodes due before)) [] (in_graph s (listing nodes due es)))
    (sym (append-nil before)) (leads_nothing (in_graph s (listing nodes due before)))
leads_edges s nodes due before (e ∷ edges) few ends fits =
    let end = All-head (HasEndsBelow nodes) e edges ends in
    let sum = sum_by-cons (λ (x : Edge). x.length) e edges in
    let first = leads_edge s nodes due before (min e.a e.b + 1) (max e.a e.b + 1) e.length few (omega arith)
    (omega (arith, end.a, end.b)) (omega arith) (omega (arith, end.a, end.b)) (omega (arith, sum, fits)) in
    let rest = leads_edges s nodes due (before ++ node_edge e ∷ []) edges few
    (All-tail (HasEndsBelow nodes) e edges ends) (omega (arith, sum, fits)) in
    subst (λ es. LeadsOn (in_graph s (listing nodes due before)) (flat_map edge_text (e ∷ edges))
    (in_graph s (listing nodes due es))) (append_assoc before (node_edge e ∷ []) (map node_edge edges))
    (leads_both (in_graph s (listing nodes due before)) (in_graph s (listing nodes due (before ++ node_edge e ∷ [])))
    (in_graph s (listing nodes due ((before ++ node_edge e ∷ []) ++ map node_edge edges))) (edge_text e)
    (flat_map edge_text edges) first rest)

-- the lines of terminals add these
leads_terminals : (s : Sections) (nodes due : ℕ) (before : List ℕ) (vertices : List ℕ) → nodes < 2 ^ 32
    → All (λ v. v < nodes) vertices
    → LeadsOn (in_terminals s nodes (naming due before)) (flat_map terminal_text vertices)
    (in_terminals s nodes (naming due (before ++ map node_of vertices)))
leads_terminals s nodes due before [] few below =
    subst (λ ns. LeadsOn (in_terminals s nodes (naming due before)) [] (in_terminals s nodes (naming due ns)))
    (sym (append-nil before)) (leads_nothing (in_terminals s nodes (naming due before)))
leads_terminals s nodes due before (v ∷ vertices) few below =
    let low = All-head (λ v. v < nodes) v vertices below in
    let first = leads_terminal s nodes due before (v + 1) few (omega arith) (omega (arith, low)) in
    let rest = leads_terminals s nodes due (before ++ node_of v ∷ []) vertices few
    (All-tail (λ v. v < nodes) v vertices below) in
    subst (λ ns. LeadsOn (in_terminals s nodes (naming due before)) (flat_map terminal_text (v ∷ vertices))
    (in_terminals s nodes (naming due ns))) (append_assoc before (node_of v ∷ []) (map node_of vertices))
    (leads_both (in_terminals s nodes (naming due before))
    (in_terminals s nodes (naming due (before ++ node_of v ∷ [])))
    (in_terminals s nodes (naming due ((before ++ node_of v ∷ []) ++ map node_of vertices))) (terminal_text v)
    (flat_map terminal_text vertices) first rest)

-- ---- sections

-- the sections with a graph, and with terminals
abbrev pub with_graph : StpGraph → Sections
with_graph graph = record { graph = Some graph; terminals = None; coordinates = None }

abbrev pub with_terminals : StpGraph → List ℕ → Sections
with_terminals graph terminals = record { graph = Some graph; terminals = Some terminals; coordinates = None }

-- the section of the graph is read as that graph
pub leads_graph : (g : Graph) → IsGraph g → 1 ≤ g.vertices
    → LeadsOn (outside no_sections) (graph_text g) (outside (with_graph (file_graph g)))
leads_graph g is some =
    let few : g.vertices < 2 ^ 32 = omega (arith, is.few_vertices) in
    let due = length g.edges in
    let few_due : due < 2 ^ 32 = omega (arith, is.few_edges) in
    let begun = in_graph no_sections (listing g.vertices due []) in
    let listed = in_graph no_sections (listing g.vertices due (map node_edge g.edges)) in
    let done = outside (with_graph (file_graph g)) in
    let counted : (length (map node_edge g.edges) == due) ≡ true = eq-eqb _ _ (length-map g.edges node_edge) in
    let end = leads_section_end listed done
    (λ n. ap (λ right. (if right then Ok tt else Err (WrongCount section.Graph)) >>= (λ _. Ok done)) counted) in
    leads_same (outside no_sections) done (graph_head g.vertices due ++ (flat_map edge_text g.edges ++ section_end))
    (graph_text g) (sym (append_assoc (graph_head g.vertices due) (flat_map edge_text g.edges) section_end))
    (leads_both (outside no_sections) begun done (graph_head g.vertices due) (flat_map edge_text g.edges ++ section_end)
    (leads_graph_head no_sections g.vertices due refl some few few_due)
    (leads_both begun listed done (flat_map edge_text g.edges) section_end
    (leads_edges no_sections g.vertices due [] g.edges few is.ends (omega (arith, is.total))) end))

-- and that of the terminals as these
pub leads_all_terminals : (g : Graph) → IsGraph g → length g.terminals ≤ 255
    → LeadsOn (outside (with_graph (file_graph g))) (terminals_text g)
    (outside (with_terminals (file_graph g) (map node_of g.terminals)))
leads_all_terminals g is few_terminals =
    let s = with_graph (file_graph g) in
    let few : g.vertices < 2 ^ 32 = omega (arith, is.few_vertices) in
    let due = length g.terminals in
    let begun = in_terminals s g.vertices (naming due []) in
    let listed = in_terminals s g.vertices (naming due (map node_of g.terminals)) in
    let done = outside (with_terminals (file_graph g) (map node_of g.terminals)) in
    let counted : (length (map node_of g.terminals) == due) ≡ true = eq-eqb _ _ (length-map g.terminals node_of) in
    let end = leads_section_end listed done
    (λ n. ap (λ right. (if right then Ok tt else Err (WrongCount section.Terminals)) >>= (λ _. Ok done)) counted) in
    leads_same (outside s) done (terminals_head due ++ (flat_map terminal_text g.terminals ++ section_end))
    (terminals_text g) (sym (append_assoc (terminals_head due) (flat_map terminal_text g.terminals) section_end))
    (leads_both (outside s) begun done (terminals_head due) (flat_map terminal_text g.terminals ++ section_end)
    (leads_terminals_head s (file_graph g) due refl refl (omega (arith, few_terminals)))
    (leads_both begun listed done (flat_map terminal_text g.terminals) section_end
    (leads_terminals s g.vertices due [] g.terminals few is.terminals) end))

-- ---- the whole text

-- the first line, and the lines of the comment behind it
abbrev pub title : List ℕ
title = codes "33D32945 STP File, STP Format Version 1.0"

abbrev pub comment : List ℕ
comment = codes "\nSECTION Comment\nName \"rst\"\nEND\n\n"

-- the comment is passed over
leads_comment : (s : Sections) → LeadsOn (outside s) comment (outside s)
leads_comment s =
    grind (arith, leads_both, leads_empty (outside s), leads_line, line_by_test (codes "SECTION Comment") refl, line_by_test (codes "Name \"rst\"") refl, leads_section_end)

-- the last line ends the file
leads_end : (graph : StpGraph) (terminals : List ℕ) → LeadsOn (outside (with_terminals graph terminals)) end_text
    (ended (record { nodes = graph.nodes; edges = graph.edges; terminals = terminals; coordinates = None }))
leads_end graph terminals =
    leads_line (outside (with_terminals graph terminals))
    (ended (record { nodes = graph.nodes; edges = graph.edges; terminals = terminals; coordinates = None }))
    (codes "EOF") (codes "EOF") [] (line_by_test (codes "EOF") refl) refl refl (λ n. refl)

-- what stands behind the first line
abbrev pub body : Graph → List ℕ
body g = comment ++ (graph_text g ++ (terminals_text g ++ end_text))

pub leads_body : (g : Graph) → IsGraph g → 1 ≤ g.vertices → length g.terminals ≤ 255
    → LeadsOn (outside no_sections) (body g) (ended (file_of g))
leads_body g is some few =
    let first = outside no_sections in
    let second = outside (with_graph (file_graph g)) in
    let third = outside (with_terminals (file_graph g) (map node_of g.terminals)) in
    let last = ended (file_of g) in
    leads_both first first last comment (graph_text g ++ (terminals_text g ++ end_text)) (leads_comment no_sections)
    (leads_both first second last (graph_text g) (terminals_text g ++ end_text) (leads_graph g is some)
    (leads_both second third last (terminals_text g) end_text (leads_all_terminals g is few)
    (leads_end (file_graph g) (map node_of g.terminals))))

-- the text, as its first line and the others
pub text_parts : (g : Graph) → graph_stp_text g ≡ title ++ 10 ∷ body g
unfolding graph_stp_text
text_parts g =
    grind (arith, append_assoc head_text (graph_text g ++ terminals_text g) end_text, append_assoc (graph_text g) (terminals_text g) end_text)

-- what its lines come to, whatever the number of its end as a line
lines_come : (g : Graph) (end : ℕ) → IsGraph g → 1 ≤ g.vertices → length g.terminals ≤ 255
    → value_of_lines end (lines_of (title ++ 10 ∷ body g)) ≡ Ok (file_of g)
lines_come g end is some few =
    let (m, led) = leads_body g is some few 2 [] in
    let come = subst (λ text. comes (outside no_sections) 2 text ≡ Ok (ended (file_of g))) (append-nil (body g)) led in
    ap (value_of_lines end) (lines_of-line title (body g) (line_by_test title refl))
    ∙ ap (λ r. r >>= end_of_text end) come

-- the text is that of the file
pub text_is_file : (g : Graph) → IsGraph g → length g.terminals ≤ 255 → stp_of (graph_stp_text g) ≡ Ok (file_of g)
text_is_file g is few =
    let root = is.terminals 0 0 is.terminal in
    ap (λ lines. value_of_lines (count_by (λ b. b == 10) (graph_stp_text g) + 1) (lines_of lines)) (text_parts g)
    ∙ lines_come g (count_by (λ b. b == 10) (graph_stp_text g) + 1) is (omega (arith, root)) few

-- ---- the graph of the file

-- the edge of a file's edge
edge_back : (e : Edge) → edge_of (node_edge e) ≡ turned e
edge_back e = grind arith

edges_back : (edges : List Edge) → map edge_of (map node_edge edges) ≡ map turned edges
edges_back [] = refl
edges_back (e ∷ edges) = ap (λ x. x ∷ map edge_of (map node_edge edges)) (edge_back e)
    ∙ ap (λ es. turned e ∷ es) (edges_back edges)

-- the vertices of a file's terminals
vertices_back : (vertices : List ℕ) → map vertex_of (map node_of vertices) ≡ vertices
vertices_back [] = refl
vertices_back (v ∷ vertices) = grind (arith, vertices_back vertices)

-- a filter that all pass
filter_all_pass : {X : Type 0} (p : X → Bool) (xs : List X) → All (λ x. p x ≡ true) xs → filter p xs ≡ xs
filter_all_pass p [] all = refl
filter_all_pass p (x ∷ xs) all =
    rw (All-head (λ x. p x ≡ true) x xs all)
    (ap (λ ys. x ∷ ys) (filter_all_pass p xs (All-tail (λ x. p x ≡ true) x xs all)))

-- different vertices have no repeats
different_stay : (vertices : List ℕ) → AreDifferent vertices → distinct_of vertices ≡ vertices
different_stay [] different = refl
different_stay (v ∷ vertices) different =
    let rest = different_stay vertices
    (λ i j d earlier inside. different (suc i) (suc j) d (omega arith) (omega arith)) in
    let others : All (λ w. not (w == v) ≡ true) vertices =
    λ k d inside. ap not (ne_eqb (get_or vertices k d) v (λ e. different 0 (suc k) d (omega arith) (omega arith) (sym e))) in
    ap (λ vs. v ∷ without v vs) rest ∙ ap (λ vs. v ∷ vs) (filter_all_pass _ vertices others)

-- the file's graph is the graph, with its edges turned
pub graph_is_back : (g : Graph) → AreDifferent g.terminals → graph_of_stp (file_of g) ≡ with_edges_turned g
graph_is_back g different =
    grind (arith, vertices_back g.terminals, different_stay g.terminals different, edges_back g.edges)

-- the first law
pub graphs_are_read_back_lem : GraphsAreReadBack
graphs_are_read_back_lem g is few different = (file_of g, text_is_file g is few, graph_is_back g different)
