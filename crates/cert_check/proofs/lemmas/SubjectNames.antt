-- The labels of a graph's edges and vertices, which are numbers, and those of any subject.
use Rattle.std.proofs.Common.{ℕ, ◌≡◌, refl, arith}
use Rattle.net_graph.specs.Graph.{Graph}
use Rattle.answer_text.specs.Forms.{set_size}
use Rattle.answer_text.specs.declared.label.EdgeLabel.TheVariants as edge
use Rattle.answer_text.specs.declared.label.VertexLabel.TheVariants as vertex
use Rattle.cert_check.specs.declared.subject.Subject.{Subject}
use Rattle.cert_check.specs.declared.subject.Subject.TheVariants as subject
use Rattle.cert_check.specs.Named.{IsNamed, in_graph, named_of}
use Rattle.cert_check.proofs.lemmas.GridNames.{IsNamed-on_grid}

pub same_edge_number : (n n' : ℕ) → edge.Number n ≡ edge.Number n' → n ≡ n'
same_edge_number n n' same = cc

pub same_vertex_number : (n n' : ℕ) → vertex.Number n ≡ vertex.Number n' → n ≡ n'
same_vertex_number n n' same = cc

pub IsNamed-in_graph : (g : Graph) → IsNamed (in_graph g)
IsNamed-in_graph g = grind (arith, same_edge_number, same_vertex_number)

pub IsNamed-named_of : (s : Subject) → IsNamed (named_of s)
IsNamed-named_of (subject.OnGrid grid) = IsNamed-on_grid grid.now
IsNamed-named_of (subject.InGraph g) = IsNamed-in_graph g.now

-- the sets of a text are those of the graph's vertices
pub set_size_of : (s : Subject) → set_size (named_of s).form ≡ (named_of s).graph.vertices
set_size_of (subject.OnGrid grid) = refl
set_size_of (subject.InGraph g) = refl
