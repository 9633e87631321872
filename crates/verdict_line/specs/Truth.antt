-- What is true where the line of a verdict was printed.
use Rattle.std.specs.Prelude.{ℕ, ◌≡◌, Bool, true, List, ◌↔◌}
use Rattle.rst_outside.specs.Sink.{SinkState, Appended}
use Rattle.net_graph.specs.Network.{IsLowerBound, IsShortest}
use Rattle.cert_tree.specs.declared.split.SplitOn.{SplitOn}
use Rattle.cert_tree.specs.Tree.{Tree}
use Rattle.answer_text.specs.Value.{WrittenAnswer}
use Rattle.cert_check.specs.Named.{Named}
use Rattle.cert_check.specs.Accepted.{AcceptsIn, IsAcceptedIn}
use Rattle.verdict_line.specs.Verdicts.{accepted_line}

-- `out` gained the line of an answer that is accepted, no network of the graph is shorter than its bound, and where it
-- says optimal its network is a shortest one.
abbrev pub TellsAccepted : Named → List ℕ → SinkState → SinkState → Type 0
TellsAccepted N bytes out out' =
    (answer : WrittenAnswer) × (network : List Bool) × (tree : Tree SplitOn) × AcceptsIn N bytes answer network tree
    × Appended out.taken (accepted_line answer.head.length answer.head.bound answer.head.optimal) out'.taken
    × IsLowerBound N.graph answer.head.bound
    × (answer.head.optimal ≡ true → IsShortest N.graph network)

-- The status is 0 exactly where the bytes are accepted as an answer, and then `out` gained the line that says so.
abbrev pub JudgesTruly : Named → List ℕ → SinkState → SinkState → ℕ → Type 0
JudgesTruly N bytes out out' status =
    ((status ≡ 0) ↔ IsAcceptedIn N bytes) × (status ≡ 0 → TellsAccepted N bytes out out')
