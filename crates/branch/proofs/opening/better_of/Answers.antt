-- Each of the two leaves has its note.
use Rattle.branch.proofs.opening.better_of.Goals as goal
use Rattle.branch.proofs.opening.better_of.Goals.{then-leaf-other, else-leaf-other}

pub returns-clause-note : goal.returns-clause-note
returns-clause-note _ c =
    elim c.if-leaf-other.branch [
      | then-leaf-other w ↦ rw w.result-is c.in_ok-other.ensures.note
      | else-leaf-other w ↦ rw w.result-is c.requires.leaf
    ]
