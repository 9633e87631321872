use Rattle.std.proofs.Common.{arith}
use Rattle.net_graph.specs.MembersLaws.{members_of-more}
use Rattle.std.proofs.lemmas.List.{append-nil}
use Rattle.spanning.proofs.joining.places_of.Goals as goal
use Rattle.spanning.proofs.joining.places_of.Goals.{then-has+in_ok-push, else-has}

pub loop-place-preserved : goal.loop-place-preserved
loop-place-preserved c = grind (arith, members_of-more, then-has+in_ok-push, else-has, append-nil)
