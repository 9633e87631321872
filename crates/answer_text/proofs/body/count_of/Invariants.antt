use Rattle.std.proofs.Common.{◌≡◌, ◌≤◌, length, take}
use Rattle.net_graph.specs.Members.{members_of}
use Rattle.answer_text.proofs.body.count_of.Given as goal

-- as many as the members among the numbers passed
abbrev pub invariant-loop-e : goal.invariant-loop-e
invariant-loop-e l = record { count : l.count ≡ length (members_of (take l.e l.set)); few : l.count ≤ l.e }
