use Rattle.std.proofs.Common.{filter, flat_map, get_or}
use Rattle.std.specs.List.{range_with_len}
use Rattle.text_out.specs.Gathers.{Gathers}
use Rattle.slack_tools.specs.Text.{edge_text, is_above}
use Rattle.slack_tools.proofs.write.write_lines.Given as goal

-- the lines of the edges passed
abbrev pub invariant-loop-edge : goal.invariant-loop-edge
invariant-loop-edge g l = Gathers (g.S.Sink.state l.initial.sink) l.initial.block
    (flat_map (edge_text l.grid l.bounds)
    (filter (λ e. is_above l.above (get_or l.bounds e 0)) (range_with_len 0 l.edge)))
    (g.S.Sink.state l.sink) l.block
