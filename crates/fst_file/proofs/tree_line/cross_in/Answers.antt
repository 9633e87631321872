-- A word that is no place rules out each cross.
use Rattle.full_tree.specs.declared.code.TreeCode.TheVariants.{Cross}
use Rattle.fst_file.proofs.lemmas.Codes.{no_south, no_east, no_north, cross_stands}
use Rattle.fst_file.proofs.tree_line.cross_in.Goals as goal

pub returns-in_err-south-clause-none : goal.returns-in_err-south-clause-none
returns-in_err-south-clause-none c = rw c.from_residual-in_err-south.ensures
    (no_south _ _ _ c.in_ok-west.ensures.found.2 c.in_err-south.ensures.none)

pub returns-in_err-east-clause-none : goal.returns-in_err-east-clause-none
returns-in_err-east-clause-none c = rw c.from_residual-in_err-east.ensures
    (no_east _ _ _ _ _ c.in_ok-west.ensures.found.2 c.in_ok-south.ensures.found.2 c.in_err-east.ensures.none)

pub returns-in_err-north-clause-none : goal.returns-in_err-north-clause-none
returns-in_err-north-clause-none c = rw c.from_residual-in_err-north.ensures
    (no_north _ _ _ _ _ _ _ c.in_ok-west.ensures.found.2 c.in_ok-south.ensures.found.2 c.in_ok-east.ensures.found.2 c.in_err-north.ensures.none)

pub returns-clause-found : goal.returns-clause-found
returns-clause-found c =
    let w = c.in_ok-west.ensures.found in
    let s = c.in_ok-south.ensures.found in
    let e = c.in_ok-east.ensures.found in
    let n = c.in_ok-north.ensures.found in
    (Cross w.0 s.0 e.0 n.0, (w.1, s.1, e.1, n.1), cc (w.2, s.2, e.2, n.2, c.is_empty.ensures.0 c.if-not-is_empty.false), cross_stands _ w.0 _ s.0 _ e.0 _ n.0 w.3 s.3 e.3 n.3)
