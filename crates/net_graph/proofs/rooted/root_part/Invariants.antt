use Rattle.std.proofs.Common.{◌≡◌, length}
use Rattle.net_graph.specs.Decision.{InRootPart}
use Rattle.net_graph.proofs.lemmas.RootedLemmas.{HoldsBelow}
use Rattle.net_graph.proofs.rooted.root_part.Given as goal

-- of the edges so far the root part's are added
abbrev pub invariant-loop-n : goal.invariant-loop-n
invariant-loop-n l = HoldsBelow (InRootPart l.g l.set) l.n l.part × (length l.part ≡ length l.g.edges)
