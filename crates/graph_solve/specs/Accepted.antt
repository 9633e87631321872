-- Which bytes are accepted as an answer in a graph, and the verdict on any.
use Rattle.std.specs.Prelude.{ℕ, ◌≡◌, Bool, List}
use Rattle.net_graph.specs.Graph.{Graph}
use Rattle.cert_check.specs.declared.verdict.Ruling.{Ruling}
use Rattle.cert_check.specs.declared.verdict.Finished.{Finished}
use Rattle.cert_check.specs.Named.{in_graph}
use Rattle.cert_check.specs.Rulings.{verdict_of}
use Rattle.cert_check.specs.Verdicts.{IsVerdictIn}
use Rattle.cert_check.specs.Accepted.{AcceptsAsIn, IsAcceptedIn}

-- the bytes are accepted as an answer in the graph
abbrev pub IsGraphAccepted : Graph → List ℕ → Type 0
IsGraphAccepted g = IsAcceptedIn (in_graph g)

-- they are, with this network, and say this length and bound, and whether they are optimal
abbrev pub AcceptsGraphAs : Graph → List ℕ → List Bool → ℕ → ℕ → Bool → Type 0
AcceptsGraphAs g = AcceptsAsIn (in_graph g)

-- this is the verdict on the bytes as an answer in the graph
abbrev pub IsVerdictOn : Graph → List ℕ → Ruling → Type 0
IsVerdictOn g bytes v = (f : Finished) × IsVerdictIn (in_graph g) bytes f × (verdict_of v ≡ f.verdict)

-- no other verdict is one on the bytes
abbrev pub IsOnlyVerdictOn : Graph → List ℕ → Ruling → Type 0
IsOnlyVerdictOn g bytes v = (other : Ruling) → IsVerdictOn g bytes other → other ≡ v
