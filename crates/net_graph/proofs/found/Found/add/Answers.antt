use Rattle.std.proofs.Common.{length-append, arith}
use Rattle.std.proofs.lemmas.List.{length-set}
use Rattle.net_graph.proofs.lemmas.FoundLemmas.{room_left, AreMarksOf-more}
use Rattle.net_graph.proofs.found.Found.add.Goals as goal

pub push_reserved-requires : goal.push_reserved-requires
push_reserved-requires c = grind (arith, room_left)

pub invariant_of-self : goal.invariant_of-self
invariant_of-self c = grind (arith, length-set, AreMarksOf-more, length-append)
