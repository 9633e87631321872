-- What the texts of an answer on a grid and in a graph tell, and which answers are fit for them.
use Rattle.std.specs.Prelude.{ℕ, ◌≡◌, ◌+◌, ◌*◌, ◌<◌, ◌≤◌, List, length, map, All, IfSome, Option}
use Rattle.points_in.specs.declared.point.Point.{Point}
use Rattle.net_graph.specs.declared.packing.Cut.{Cut}
use Rattle.net_graph.specs.Members.{members_of}
use Rattle.net_graph.specs.Graph.{Graph}
use Rattle.answer_text.specs.declared.form.Form.{Form}
use Rattle.answer_text.specs.declared.form.Form.TheVariants as form
use Rattle.answer_text.specs.declared.head.AnswerHead.{AnswerHead}
use Rattle.answer_text.specs.declared.label.EdgeLabel.{EdgeLabel}
use Rattle.answer_text.specs.declared.label.EdgeLabel.TheVariants as edge
use Rattle.answer_text.specs.declared.label.VertexLabel.{VertexLabel}
use Rattle.answer_text.specs.declared.label.VertexLabel.TheVariants as vertex
use Rattle.hanan_grid.specs.Grid.{hanan_grid_of, xs_of, ys_of}
use Rattle.hanan_grid.specs.Names.{name_of_edge, point_of_vertex}
use Rattle.cert_tree.specs.declared.split.SplitOn.{SplitOn}
use Rattle.cert_tree.specs.declared.split.SplitOn.TheVariants as split
use Rattle.answer_text.specs.declared.answer.Answer.{Answer}
use Rattle.answer_text.specs.Value.{WrittenAnswer}
use Rattle.cert_tree.specs.Tree.{Tree}
use Rattle.cert_tree.specs.Tree.Tree.{Leaf, Split}
use Rattle.answer_text.specs.declared.split.SplitName.{SplitName}
use Rattle.answer_text.specs.declared.split.SplitName.TheVariants as name
use Rattle.answer_text.specs.declared.version.Version.TheVariants as version
use Rattle.answer_text.specs.Notes.{no_note}
use Rattle.answer_text.specs.Forms.{newest_of}
use Rattle.answer_text.specs.Spelling.{FitsSplit}
use Rattle.cert_tree.specs.Preorder.{nodes_of, packings_of, split_count}

-- how the edges and the vertices of a graph are labelled
pub record Labels : Type 0 where
  pub edge : ℕ → EdgeLabel
  pub vertex : ℕ → VertexLabel

-- on the grid of these terminals an edge by its ends, and a vertex by its point
abbrev pub grid_labels : List Point → Labels
grid_labels ps = record {
  edge = λ e. edge.Ends (name_of_edge ps e);
  vertex = λ v. vertex.At (point_of_vertex (xs_of ps) (ys_of ps) v);
}

-- in a graph each by its number, counted from 1
abbrev pub number_labels : Labels
number_labels = record { edge = λ e. edge.Number (e + 1); vertex = λ v. vertex.Number (v + 1) }

-- the label of the edge or the vertex that a split is on
abbrev pub split_label : Labels → SplitOn → SplitName
split_label labels (split.Edge e) = name.Edge (labels.edge e)
split_label labels (split.Vertex v) = name.Vertex (labels.vertex v)

-- a tree with the edges and vertices of its splits labelled
abbrev pub labelled : Labels → Tree SplitOn → Tree SplitName
labelled labels (Leaf cuts) = Leaf cuts
labelled labels (Split on outside inside) =
    Split (split_label labels on) (labelled labels outside) (labelled labels inside)

-- the labels of edges, in the order of their numbers
abbrev pub edge_labels : Labels → List ℕ → List EdgeLabel
edge_labels labels numbers = map labels.edge numbers

-- the same on the grid of these terminals
abbrev pub named : List Point → Tree SplitOn → Tree SplitName
named ps tree = labelled (grid_labels ps) tree

abbrev pub names_of : List Point → List ℕ → List EdgeLabel
names_of ps numbers = edge_labels (grid_labels ps) numbers

-- what the text of an answer tells of its head: in a graph nothing of a concatenation
abbrev pub head_told : Form → AnswerHead → AnswerHead
head_told (form.OnGrid V) h = h
head_told (form.OfGraph E V) h = record h { concat = no_note }

-- what the text of an answer tells in its form, with these labels
abbrev pub value_told : Form → Labels → Answer → WrittenAnswer
value_told F labels a = record {
  version = newest_of F;
  head = head_told F a.head;
  edges = edge_labels labels (members_of a.network);
  tree = labelled labels a.tree;
}

-- .. on the grid of these terminals
abbrev pub value_of : List Point → Answer → WrittenAnswer
value_of ps a = value_told (form.OnGrid (hanan_grid_of ps).vertices) (grid_labels ps) a

-- .. and in a graph
abbrev pub graph_value_of : Graph → Answer → WrittenAnswer
graph_value_of g a = value_told (form.OfGraph (length g.edges) g.vertices) number_labels a

-- a cut weighs at least 1, and its set is one of the graph's vertices
pub record IsCutOn (g : Graph) (c : Cut) : Type 0 where
  pub some : 0 < c.weight
  pub size : length c.members ≡ g.vertices

-- a leaf has at most 4 E + 1 cuts, where E is the number of edges
pub record IsPackingOn (g : Graph) (cuts : List Cut) : Type 0 where
  pub few : length cuts ≤ 4 * length g.edges + 1
  pub each : All (IsCutOn g) cuts

-- a split is on an edge or a vertex of the graph
abbrev pub IsSplitOn : Graph → SplitOn → Type 0
IsSplitOn g (split.Edge e) = e < length g.edges
IsSplitOn g (split.Vertex v) = v < g.vertices

-- a node that is a split is on an edge or a vertex of the graph
abbrev pub IsNodeOn : Graph → Option SplitOn → Type 0
IsNodeOn g node = IfSome node (IsSplitOn g)

-- a node that is a split is named in the form's way
abbrev pub FitsNode : Form → Labels → Option SplitOn → Type 0
FitsNode F labels node = IfSome node (λ on. FitsSplit version.Two F (split_label labels on))

-- the network is a set of the graph's edges, and the tree has at most 255 splits, each on one of the graph's edges
-- or vertices
pub record IsAnswerOn (g : Graph) (a : Answer) : Type 0 where
  pub network : length a.network ≡ length g.edges
  pub few : split_count a.tree ≤ 255
  pub nodes : All (IsNodeOn g) (nodes_of a.tree)
  pub packings : All (IsPackingOn g) (packings_of a.tree)
