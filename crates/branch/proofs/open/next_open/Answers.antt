-- The least value so far, and at the end of the list.
use Rattle.std.proofs.Common.{arith}
use Rattle.std.proofs.lemmas.List.Elements.{All-nil}
use Rattle.branch.proofs.lemmas.ScanLemmas.{least_lower, least_kept, none_below, some_below}
use Rattle.branch.proofs.open.next_open.Goals as goal
use Rattle.branch.proofs.open.next_open.Goals.{then-note-least, else-note-least}

pub loop-place-init : goal.loop-place-init
loop-place-init c = grind (arith, All-nil)

pub loop-place-preserved : goal.loop-place-preserved
loop-place-preserved c = grind (arith, then-note-least, least_lower, else-note-least, least_kept)

pub returns-clause-none : goal.returns-clause-none
returns-clause-none c = none_below _ _ _ _ _ c.loop-place-test.false c.loop-place.invariant

pub returns-clause-open : goal.returns-clause-open
returns-clause-open c = some_below _ _ _ _ _ c.loop-place-test.false c.loop-place.invariant
