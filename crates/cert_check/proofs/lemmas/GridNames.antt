-- The labels of a grid's edges and vertices: by its ends, and by its point, each is told from the others.
use Rattle.std.proofs.Common.{ℕ, ◌≡◌, List, arith}
use Rattle.std.specs.Prelude.{IfNone, None, Option, Some}
use Rattle.points_in.specs.declared.point.Point.{Point}
use Rattle.hanan_grid.specs.declared.name.EdgeName.{EdgeName}
use Rattle.hanan_grid.specs.Grid.{xs_of, ys_of}
use Rattle.hanan_grid.specs.GridLaws.{IsRising-xs_of, IsRising-ys_of}
use Rattle.hanan_grid.specs.Names.{IsCrossing, NamesNoEdge, name_of_edge, point_of_vertex}
use Rattle.hanan_grid.specs.NamesLaws.{IsCrossing-point_of_vertex, same_edge, vertex_of-point_of_vertex}
use Rattle.answer_text.specs.declared.label.EdgeLabel.TheVariants as edge
use Rattle.answer_text.specs.declared.label.VertexLabel.TheVariants as vertex
use Rattle.cert_check.specs.Named.{IsNamed, on_grid}
use Rattle.cert_check.specs.Resolved.{LabelsNoEdge, LabelsNoVertex}

same_ends : (name name' : EdgeName) → edge.Ends name ≡ edge.Ends name' → name ≡ name'
same_ends name name' same = cc

same_point : (p p' : Point) → vertex.At p ≡ vertex.At p' → p ≡ p'
same_point p p' same = cc

pub IsNamed-on_grid : (ps : List Point) → IsNamed (on_grid ps)
IsNamed-on_grid ps = record {
  edge = λ e e' inside inside' same.
      same_edge ps e e' inside inside' (same_ends (name_of_edge ps e) (name_of_edge ps e') same);
  vertex = λ v v' inside inside' same.
      (grind (arith, vertex_of-point_of_vertex (xs_of ps) (ys_of ps) v (IsRising-xs_of ps) (IsRising-ys_of ps) inside, vertex_of-point_of_vertex (xs_of ps) (ys_of ps) v' (IsRising-xs_of ps) (IsRising-ys_of ps) inside'));
}

-- what no edge's name or no crossing is, is no label
no_edge_labelled : (ps : List Point) (name : EdgeName) → NamesNoEdge ps name →
    LabelsNoEdge (on_grid ps) (edge.Ends name)
no_edge_labelled ps name none e inside same = none e inside (same_ends (name_of_edge ps e) name same)

no_vertex_labelled : (ps : List Point) (p : Point) → (IsCrossing (xs_of ps) (ys_of ps) p → ⊥) →
    LabelsNoVertex (on_grid ps) (vertex.At p)
no_vertex_labelled ps p none v inside same =
    grind (arith, same_point (point_of_vertex (xs_of ps) (ys_of ps) v) p same, IsCrossing-point_of_vertex (xs_of ps) (ys_of ps) v inside)

-- so where no number was found there is none
pub edge_unlabelled : (ps : List Point) (name : EdgeName) (found : Option ℕ) → IfNone found (NamesNoEdge ps name) →
    IfNone found (LabelsNoEdge (on_grid ps) (edge.Ends name))
edge_unlabelled ps name None none = no_edge_labelled ps name none
edge_unlabelled ps name (Some e) none = tt

pub vertex_unlabelled : (ps : List Point) (p : Point) (found : Option ℕ) →
    IfNone found (IsCrossing (xs_of ps) (ys_of ps) p → ⊥) → IfNone found (LabelsNoVertex (on_grid ps) (vertex.At p))
vertex_unlabelled ps p None none = no_vertex_labelled ps p none
vertex_unlabelled ps p (Some v) none = tt
