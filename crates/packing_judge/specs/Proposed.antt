-- What an exchange proposes.
use Rattle.std.specs.Prelude.{◌≡◌, Option, length, All, IfSome}
use Rattle.net_graph.specs.Graph.{Graph}
use Rattle.tight_packing.specs.declared.method.Proposal.{Proposal}

-- each cut of what is proposed, if there is something, is a set of the graph's vertices
abbrev pub HasCutsIn : Graph → Option Proposal → Type 0
HasCutsIn g found = IfSome found (λ proposal. All (λ c. length c.members ≡ g.vertices) proposal.packing)
