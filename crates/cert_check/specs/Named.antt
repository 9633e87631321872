-- What an answer's text is about: a graph, how its edges and vertices are labelled, and the form of the text.
use Rattle.std.specs.Prelude.{ℕ, ◌≡◌, ◌<◌, List, length}
use Rattle.points_in.specs.declared.point.Point.{Point}
use Rattle.net_graph.specs.Graph.{Graph}
use Rattle.hanan_grid.specs.Grid.{hanan_grid_of}
use Rattle.answer_text.specs.declared.form.Form.{Form}
use Rattle.answer_text.specs.declared.form.Form.TheVariants as form
use Rattle.answer_text.specs.Answers.{Labels, grid_labels, number_labels}
use Rattle.cert_check.specs.declared.subject.Subject.{Subject}
use Rattle.cert_check.specs.declared.subject.Subject.TheVariants as subject

pub record Named : Type 0 where
  pub form : Form
  pub graph : Graph
  pub labels : Labels

-- the grid of these terminals
abbrev pub on_grid : List Point → Named
on_grid ps = record {
  form = form.OnGrid (hanan_grid_of ps).vertices;
  graph = hanan_grid_of ps;
  labels = grid_labels ps;
}

-- a graph
abbrev pub in_graph : Graph → Named
in_graph g = record { form = form.OfGraph (length g.edges) g.vertices; graph = g; labels = number_labels }

-- what a subject is
abbrev pub named_of : Subject → Named
named_of (subject.OnGrid grid) = on_grid grid.now
named_of (subject.InGraph g) = in_graph g.now

-- a label is that of one edge at most, or of one vertex at most
pub record IsNamed (N : Named) : Type 0 where
  pub edge : (e e' : ℕ) → e < length N.graph.edges → e' < length N.graph.edges →
      N.labels.edge e ≡ N.labels.edge e' → e ≡ e'
  pub vertex : (v v' : ℕ) → v < N.graph.vertices → v' < N.graph.vertices →
      N.labels.vertex v ≡ N.labels.vertex v' → v ≡ v'
