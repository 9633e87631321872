use Rattle.std.proofs.Common.{arith}
use Rattle.net_graph.specs.Flags.{has}
use Rattle.net_graph.specs.MembersLaws.{members_of-more}
use Rattle.std.proofs.lemmas.List.{append-nil}
use Rattle.fst_concat.proofs.best.places_of.Goals as goal
use Rattle.fst_concat.proofs.best.places_of.Goals.{then-set-place+in_ok-push, else-set-place}

pub loop-place-preserved : goal.loop-place-preserved
loop-place-preserved c =
    grind (arith, members_of-more, then-set-place+in_ok-push, has, else-set-place, append-nil, c.loop-place.place, c.loop-place.invariant)
