use Rattle.std.specs.Prelude.{◌≡◌, map, take}
use Rattle.std.specs.List.{range_with_len}
use Rattle.net_graph.specs.Members.{members_of}
use Rattle.graph_reduce.specs.Reduction.{number_among}
use Rattle.graph_reduce.proofs.left.Numbering.of.Given as goal

abbrev pub invariant-loop-v : goal.invariant-loop-v
invariant-loop-v l = record {
  origins : l.origins.items ≡ members_of (take l.v l.nodes);
  numbers : l.numbers.items ≡ map (number_among l.nodes) (range_with_len 0 l.v);
}
