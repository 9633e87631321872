use Rattle.std.proofs.Common.{◌≡◌, ◌≤◌, filter, length, get_or}
use Rattle.std.specs.List.{range_with_len}
use Rattle.slack_tools.specs.Text.{is_above}
use Rattle.slack_tools.proofs.write.listed_count.Given as goal

-- how many of the edges passed have a line
abbrev pub invariant-loop-edge : goal.invariant-loop-edge
invariant-loop-edge l =
    (l.count ≡ length (filter (λ e. is_above l.above (get_or l.bounds e 0)) (range_with_len 0 l.edge)))
    × (l.count ≤ l.edge)
