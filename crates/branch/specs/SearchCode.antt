-- How a search as contracts see it is stored: by its parts.
use Rattle.std.specs.Prelude.{ℕ, ◌≡◌, Bool, true, false, List, Option, refl}
use Rattle.std.specs.Coded.{Coded, code_by, coded×, coded_ℕ, coded_bool, coded_list, coded_option}
use Rattle.net_graph.specs.declared.edge.Edge.{Edge}
use Rattle.net_graph.specs.Graph.{Graph}
use Rattle.cert_tree.specs.declared.split.SplitOn.{SplitOn}
use Rattle.cert_tree.specs.Tree.{Tree}
use Rattle.cert_tree.specs.PreorderLaws.{tree_code}
use Rattle.branch.specs.declared.split_kind.SplitKind.{SplitKind}
use Rattle.branch.specs.declared.split_kind.SplitKind.TheVariants as kind
use Rattle.branch.specs.Searching.{SearchState}

abbrev pub edge_code : Coded Edge
edge_code =
    code_by (ℕ × (ℕ × ℕ)) (coded× coded_ℕ (coded× coded_ℕ coded_ℕ)) (λ e. (e.a, (e.b, e.length)))
    (λ p. record { a = p.0; b = p.1.0; length = p.1.1 }) (λ _. refl)

abbrev pub graph_code : Coded Graph
graph_code =
    code_by (ℕ × (List Edge × List ℕ)) (coded× coded_ℕ (coded× (coded_list edge_code) (coded_list coded_ℕ)))
    (λ g. (g.vertices, (g.edges, g.terminals)))
    (λ p. record { vertices = p.0; edges = p.1.0; terminals = p.1.1 }) (λ _. refl)

-- whether vertices are asked for
abbrev asks_vertices : SplitKind → Bool
asks_vertices kind.Edges = false
asks_vertices kind.Vertices = true

abbrev kind_from : Bool → SplitKind
kind_from false = kind.Edges
kind_from true = kind.Vertices

pub kind_from-asks : (k : SplitKind) → kind_from (asks_vertices k) ≡ k
kind_from-asks kind.Edges = refl
kind_from-asks kind.Vertices = refl

abbrev pub kind_code : Coded SplitKind
kind_code = code_by Bool coded_bool asks_vertices kind_from kind_from-asks

-- all but the kind
abbrev pub StateParts : Type 0
StateParts = Graph × (List Bool × (Tree SplitOn × (ℕ × Option (List Bool))))

abbrev pub parts_code : Coded StateParts
parts_code =
    coded× graph_code (coded× (coded_list coded_bool)
    (coded× tree_code (coded× coded_ℕ (coded_option (coded_list coded_bool)))))

abbrev pub search_code : Coded SearchState
search_code =
    code_by (SplitKind × StateParts) (coded× kind_code parts_code)
    (λ s. (s.kind, (s.graph, (s.network, (s.tree, (s.first_length, s.shown))))))
    (λ p. record {
      graph = p.1.0;
      kind = p.0;
      network = p.1.1.0;
      tree = p.1.1.1.0;
      first_length = p.1.1.1.1.0;
      shown = p.1.1.1.1.1;
    }) (λ _. refl)
