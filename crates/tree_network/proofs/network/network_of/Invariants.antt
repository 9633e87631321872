use Rattle.std.proofs.Common.{take}
use Rattle.tree_network.proofs.lemmas.Union.{IsUnion}
use Rattle.tree_network.proofs.network.network_of.Given as goal

-- the trees at the places before this one are embedded
abbrev pub invariant-loop-place : goal.invariant-loop-place
invariant-loop-place l = IsUnion l.grid l.trees (take l.place-index l.places) l.edges
