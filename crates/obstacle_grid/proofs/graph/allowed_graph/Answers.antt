-- The parts of the graph have no fault but their total.
use Rattle.std.proofs.Common.{◌∙◌}
use Rattle.obstacle_grid.proofs.lemmas.Faults.{graph_from_parts, known_fault_of_parts}
use Rattle.obstacle_grid.proofs.graph.allowed_graph.Goals as goal

pub unreachable-requires : goal.unreachable-requires
unreachable-requires c =
    let edges = c.from_vec-edges.ensures ∙ c.in_ok-allowed_edges.ensures.edges in
    let terminals = c.from_vec-terminals.ensures ∙ c.in_ok-terminals.ensures in
    let is = graph_from_parts c.in_ok-grid.grid _ _ _ c.vertex_count.ensures.count edges terminals in
    known_fault_of_parts c.in_ok-grid.grid _ _ _ c.vertex_count.ensures.obstacles is c.in-Err-EndOutOfRange.field-0-is
    c.in-Err-EndOutOfRange.ensures.fault

pub unreachable-requires-in-Err-ZeroLength : goal.unreachable-requires-in-Err-ZeroLength
unreachable-requires-in-Err-ZeroLength c =
    let edges = c.from_vec-edges.ensures ∙ c.in_ok-allowed_edges.ensures.edges in
    let terminals = c.from_vec-terminals.ensures ∙ c.in_ok-terminals.ensures in
    let is = graph_from_parts c.in_ok-grid.grid _ _ _ c.vertex_count.ensures.count edges terminals in
    known_fault_of_parts c.in_ok-grid.grid _ _ _ c.vertex_count.ensures.obstacles is c.in-Err-ZeroLength.field-0-is
    c.in-Err-ZeroLength.ensures.fault

pub unreachable-requires-in-Err-TerminalOutOfRange : goal.unreachable-requires-in-Err-TerminalOutOfRange
unreachable-requires-in-Err-TerminalOutOfRange c =
    let edges = c.from_vec-edges.ensures ∙ c.in_ok-allowed_edges.ensures.edges in
    let terminals = c.from_vec-terminals.ensures ∙ c.in_ok-terminals.ensures in
    let is = graph_from_parts c.in_ok-grid.grid _ _ _ c.vertex_count.ensures.count edges terminals in
    known_fault_of_parts c.in_ok-grid.grid _ _ _ c.vertex_count.ensures.obstacles is
    c.in-Err-TerminalOutOfRange.field-0-is c.in-Err-TerminalOutOfRange.ensures.fault
