-- The tree is one of the points, and doesn't follow.
use Rattle.std.proofs.Common.{arith, inr, refl, ◌∙◌}
use Rattle.std.proofs.lemmas.Bool.{false≢true}
use Rattle.fst_file.proofs.trees.tree_fault.Goals as goal

pub returns-else-follows-clause-fault : goal.returns-else-follows-clause-fault
returns-else-follows-clause-fault c =
    let form = c.if-not-in_form.ensures.0 refl in
    let wide = c.tree_length-found.ensures.fits in
    let same = c.if-printed-found.false in
    inr (inr (
      record { form = form; length_is = same ∙ c.tree_length-found.ensures.length; length_fits = omega arith },
      λ follows. false≢true (c.if-follows.ensures.1 follows),
      refl,
    ))
