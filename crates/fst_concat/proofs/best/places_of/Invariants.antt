use Rattle.std.proofs.Common.{◌≡◌, take}
use Rattle.net_graph.specs.Members.{members_of}
use Rattle.fst_concat.proofs.best.places_of.Given as goal

abbrev pub invariant-loop-place : goal.invariant-loop-place
invariant-loop-place l = l.places ≡ members_of (take l.place l.set)
