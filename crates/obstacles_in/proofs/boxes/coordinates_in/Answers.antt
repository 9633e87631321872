-- A word that is no number rules out each box.
use Rattle.std.proofs.Common.{arith}
use Rattle.obstacles_in.proofs.lemmas.Coordinates.{no_upper}
use Rattle.obstacles_in.proofs.boxes.coordinates_in.Goals as goal

pub returns-in_err-x2-clause-none : goal.returns-in_err-x2-clause-none
returns-in_err-x2-clause-none c = rw c.from_residual-in_err-x2.ensures
    (grind arith)

pub returns-in_err-y2-clause-none : goal.returns-in_err-y2-clause-none
returns-in_err-y2-clause-none c = rw c.from_residual-in_err-y2.ensures
    (no_upper _ _ _ _ _ _ _ c.in_ok-x1.ensures.found c.in_ok-y1.ensures.found c.in_ok-x2.ensures.found
    c.in_err-y2.ensures.none)
