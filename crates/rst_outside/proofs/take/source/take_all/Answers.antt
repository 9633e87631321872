use Rattle.std.proofs.lemmas.Result.{err_from_is_err_and}
use Rattle.rst_outside.specs.SourceLaws.{came_more}
use Rattle.rst_outside.proofs.take.source.take_all.Goals as goal

-- What came in this turn came after what was gathered.
pub returns-in_err-take_some-clause-refused : goal.returns-in_err-take_some-clause-refused
returns-in_err-take_some-clause-refused g c =
    let p = err_from_is_err_and c.from_residual.result c.from_residual.ensures.1 in
    let (some, came) = c.in_err-take_some.ensures.refused in
    rw p.1 (_, came_more _ _ _ some _ c.loop-bytes.invariant.came came)
