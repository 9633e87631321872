-- A word that is no place rules out each long code.
use Rattle.full_tree.specs.declared.code.TreeCode.TheVariants.{Long}
use Rattle.fst_file.proofs.lemmas.Codes.{no_tip, long_stands}
use Rattle.fst_file.proofs.tree_line.long_in.Goals as goal

pub returns-in_err-tip-clause-none : goal.returns-in_err-tip-clause-none
returns-in_err-tip-clause-none c = rw c.from_residual-in_err-tip.ensures
    (no_tip _ _ _ _ _ c.in_ok-root.ensures.found.2 c.in_ok-toward.ensures.found c.in_err-tip.ensures.none)

pub returns-clause-found : goal.returns-clause-found
returns-clause-found c =
    let r = c.in_ok-root.ensures.found in
    let w = c.in_ok-toward.ensures.found in
    let t = c.in_ok-tip.ensures.found in
    let q = c.in_ok-side.ensures.found in
    let d = c.in_ok-drops.ensures.found in (
      Long r.0 c.in_ok-toward.toward d.0 q.0 t.0,
      (r.1, t.1, q.1, d.2),
      cc (r.2, w, t.2, q.2, d.1),
      long_stands _ r.0 c.in_ok-toward.toward _ d.0 _ q.0 _ t.0 r.3 d.3 q.3 t.3,
    )
