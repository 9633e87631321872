use Rattle.fst_concat.proofs.bound.fits.Goals as goal

pub returns-in-Taken : goal.returns-in-Taken
returns-in-Taken c = rw c.in-Taken.is (λ yes. c.lies_inside.ensures yes)
