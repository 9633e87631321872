use Rattle.std.proofs.Common.{arith}
use Rattle.cert_check.proofs.lemmas.GridNames.{vertex_unlabelled}
use Rattle.cert_check.proofs.subject.vertex_of_grid.Goals as goal

pub returns-in-At-clause-none : goal.returns-in-At-clause-none
returns-in-At-clause-none c =
    grind (arith, vertex_unlabelled c.args.grid.now c.in-At.point c.vertex_at.result c.vertex_at.ensures.none)
