use Rattle.std.proofs.Common.{◌≡◌, ◌≤◌, length}
use Rattle.net_graph.specs.Decision.{nothing_decided}
use Rattle.tree_judge.specs.Path.{decisions_behind}
use Rattle.tree_judge.specs.Ways.{StandsOnWay}
use Rattle.tree_judge.proofs.way.go_on.Given as goal

-- the same nodes are due as at the start
abbrev pub invariant-loop-turn : goal.invariant-loop-turn
invariant-loop-turn l = record {
  stands : StandsOnWay l._g l.way;
  behind : decisions_behind (nothing_decided l._g) l.way.path ≡ decisions_behind (nothing_decided l._g) l.fn.way.path;
  depth : length l.way.path ≤ length l.fn.way.path;
}

abbrev pub decreases-loop-turn : goal.decreases-loop-turn
decreases-loop-turn l = length l.way.path
