use Rattle.std.proofs.Common.{◌≡◌, length, take}
use Rattle.net_graph.specs.Members.{members_of}
use Rattle.reduced_text.proofs.set_lines.count_of.Given as goal

abbrev pub invariant-loop-e : goal.invariant-loop-e
invariant-loop-e l = l.count ≡ length (members_of (take l.e l.set))
