-- The text of an STP file as it is written.
use Rattle.std.specs.Prelude.{ℕ, List, [], ◌++◌, length, flat_map, Option, Some, None}
use Rattle.points_in.specs.declared.point.Point.{Point}
use Rattle.stp_text.specs.Lines.{head_text, section_end, graph_head, edge_line, terminals_head, terminal_line, coordinates_head, located_line, end_text}
use Rattle.stp_format.specs.declared.edge.StpEdge.{StpEdge}
use Rattle.stp_format.specs.Value.{StpValue}

-- the sections
abbrev pub graph_text : ℕ → List StpEdge → List ℕ
graph_text nodes edges =
    graph_head nodes (length edges) ++ flat_map (λ e. edge_line e.i e.j e.length) edges ++ section_end

abbrev pub terminals_text : List ℕ → List ℕ
terminals_text terminals = terminals_head (length terminals) ++ flat_map terminal_line terminals ++ section_end

abbrev pub coordinates_text : Option (List (ℕ × Point)) → List ℕ
coordinates_text None = []
coordinates_text (Some points) = coordinates_head ++ flat_map (λ l. located_line l.0 l.1) points ++ section_end

abbrev pub sections_text : StpValue → List ℕ
sections_text v = graph_text v.nodes v.edges ++ terminals_text v.terminals ++ coordinates_text v.coordinates

-- the whole text
abbrev pub stp_text : StpValue → List ℕ
stp_text v = head_text ++ sections_text v ++ end_text
